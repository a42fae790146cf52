use Rattle.std.proofs.Common.{rules}
use Rattle.std.proofs.Output.{has_written_append, has_written_of_eq}
use Rattle.curve.specs.Plots.{plot_line}
use Rattle.curve.proofs.Plotted.{labels_more}
use Rattle.curve.proofs.plot.LinesDisplay.fmt.Goals as goal

pub loop-level-preserved : goal.loop-level-preserved
loop-level-preserved g c = λ plain.
    let line = c.of-line.result in
    has_written_of_eq _ _ _ _ _
    (labels_more (plot_line c.args.self.now.dots.now) c.args.self.now.labels.now (λ label. label.now) c.loop-level.level _ (plot_line line.dots.now line.level line.label.now)
    c.loop-level-test.true c.of-line.ensures)
    (has_written_append _ _ _ _ _ _ (c.loop-level.invariant plain) (search rules))
