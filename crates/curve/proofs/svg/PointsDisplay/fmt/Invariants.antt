use Rattle.std.proofs.Common.{take}
use Rattle.std.specs.Fmt.{HasWritten, IsPlainFormatter}
use Rattle.curve.specs.Pictures.{point}
use Rattle.curve.specs.Plots.{numbered}
use Rattle.curve.proofs.svg.PointsDisplay.fmt.Given as goal

-- those so far are written
abbrev pub invariant-loop-column : goal.invariant-loop-column
invariant-loop-column g l =
    IsPlainFormatter l.initial.f → HasWritten g.W.Write.write_str_gives l.initial.f (numbered point 0 (take l.column l.dots)) l.f
