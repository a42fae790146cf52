use Rattle.std.proofs.Common.{rules}
use Rattle.std.proofs.Output.{has_written_append, has_written_of_eq}
use Rattle.curve.specs.Pictures.{circle_text, circle}
use Rattle.curve.proofs.Plotted.{numbered_more}
use Rattle.curve.proofs.svg.CirclesDisplay.fmt.Goals as goal

pub loop-column-preserved : goal.loop-column-preserved
loop-column-preserved g c = λ plain.
    let one = c.of-circle.result in
    has_written_of_eq _ _ _ _ _
    (numbered_more circle c.args.self.now.0.now c.loop-column.column _ (circle_text one.place.x one.place.y one.decibels) c.loop-column-test.true c.of-circle.ensures)
    (has_written_append _ _ _ _ _ _ (c.loop-column.invariant plain) (search rules))
