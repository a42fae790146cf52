use Rattle.std.proofs.Common.{rules}
use Rattle.std.proofs.Output.{has_written_append, has_written_of_eq}
use Rattle.curve.proofs.Plotted.{marks_more}
use Rattle.curve.proofs.plot.MarksDisplay.fmt.Goals as goal

pub loop-dot-preserved : goal.loop-dot-preserved
loop-dot-preserved g c = λ plain.
    has_written_of_eq _ _ _ _ _
    (marks_more c.args.self.now.level c.args.self.now.dots.now c.loop-dot.dot-index _ c.mark_of.result.now c.loop-dot-test.true c.mark_of.ensures)
    (has_written_append _ _ _ _ _ _ (c.loop-dot.invariant plain) (search rules))
