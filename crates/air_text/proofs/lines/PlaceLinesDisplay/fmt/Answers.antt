use Rattle.std.proofs.Common.{rules}
use Rattle.std.proofs.Output.{has_written_append, has_written_of_eq}
use Rattle.air_text.proofs.Pushed.{places_more}
use Rattle.air_text.proofs.lines.PlaceLinesDisplay.fmt.Goals as goal

pub loop-place-preserved : goal.loop-place-preserved
loop-place-preserved g c = λ plain.
    has_written_of_eq _ _ _ _ _ (places_more c.args.self.now.0.now c.loop-place.place c.loop-place-test.true)
    (has_written_append _ _ _ _ _ _ (c.loop-place.invariant plain) (search rules))
