use Rattle.std.proofs.Common.{rules}
use Rattle.std.proofs.Output.{has_written_append, has_written_of_eq}
use Rattle.curve.specs.Pictures.{place_text, point}
use Rattle.curve.proofs.Plotted.{numbered_more}
use Rattle.curve.proofs.svg.PointsDisplay.fmt.Goals as goal

pub loop-column-preserved : goal.loop-column-preserved
loop-column-preserved g c = λ plain.
    let place = c.of-place.result in
    has_written_of_eq _ _ _ _ _
    (numbered_more point c.args.self.now.0.now c.loop-column.column _ (place_text place.x place.y) c.loop-column-test.true
    (λ i. place_text (c.of-place.ensures.x i) (c.of-place.ensures.y i)))
    (has_written_append _ _ _ _ _ _ (c.loop-column.invariant plain) (search rules))
