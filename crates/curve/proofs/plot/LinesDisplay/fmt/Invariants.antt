use Rattle.std.proofs.Common.{map, take}
use Rattle.std.specs.Fmt.{HasWritten, IsPlainFormatter}
use Rattle.curve.specs.Plots.{plot_lines}
use Rattle.curve.proofs.plot.LinesDisplay.fmt.Given as goal

-- the lines so far are written
abbrev pub invariant-loop-level : goal.invariant-loop-level
invariant-loop-level g l =
    IsPlainFormatter l.initial.f → HasWritten g.W.Write.write_str_gives l.initial.f (plot_lines l.self.dots.now 0 (map (λ label. label.now) (take l.level l.labels))) l.f
