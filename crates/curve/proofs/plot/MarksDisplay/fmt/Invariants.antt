use Rattle.std.proofs.Common.{take}
use Rattle.std.specs.Fmt.{HasWritten, IsPlainFormatter}
use Rattle.std.specs.List.{flat_map}
use Rattle.curve.specs.Plots.{mark}
use Rattle.curve.proofs.plot.MarksDisplay.fmt.Given as goal

-- the marks so far are written
abbrev pub invariant-loop-dot : goal.invariant-loop-dot
invariant-loop-dot g l =
    IsPlainFormatter l.initial.f → HasWritten g.W.Write.write_str_gives l.initial.f (flat_map (mark l.self.level) (take l.dot-index l.dots)) l.f
