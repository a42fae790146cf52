use Rattle.std.proofs.Common.{rules}
use Rattle.std.proofs.Output.{has_written_append, has_written_of_eq}
use Rattle.curve.proofs.Plotted.{ratios_more}
use Rattle.curve.proofs.plot.RatiosDisplay.fmt.Goals as goal

pub loop-dot-preserved : goal.loop-dot-preserved
loop-dot-preserved g c = λ plain.
    has_written_of_eq _ _ _ _ _
    (ratios_more c.args.self.now.0.now c.loop-dot.dot-index _ c.ratio_of-decibels.result c.loop-dot-test.true c.ratio_of-decibels.ensures)
    (has_written_append _ _ _ _ _ _ (c.loop-dot.invariant plain) (search rules))
