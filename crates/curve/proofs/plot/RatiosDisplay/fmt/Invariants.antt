use Rattle.std.proofs.Common.{take}
use Rattle.std.specs.Fmt.{HasWritten, IsPlainFormatter}
use Rattle.std.specs.List.{flat_map}
use Rattle.curve.specs.Plots.{decibels_in}
use Rattle.curve.proofs.plot.RatiosDisplay.fmt.Given as goal

-- the ratios so far are written
abbrev pub invariant-loop-dot : goal.invariant-loop-dot
invariant-loop-dot g l =
    IsPlainFormatter l.initial.f → HasWritten g.W.Write.write_str_gives l.initial.f (flat_map (λ d. decibels_in 5 d.decibels) (take l.dot-index l.dots)) l.f
