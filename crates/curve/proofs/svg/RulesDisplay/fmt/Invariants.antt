use Rattle.std.proofs.Common.{map, take}
use Rattle.std.specs.Fmt.{HasWritten, IsPlainFormatter}
use Rattle.curve.specs.Pictures.{rule}
use Rattle.curve.specs.Plots.{numbered}
use Rattle.curve.proofs.svg.RulesDisplay.fmt.Given as goal

-- the lines so far are written
abbrev pub invariant-loop-power : goal.invariant-loop-power
invariant-loop-power g l =
    IsPlainFormatter l.initial.f → HasWritten g.W.Write.write_str_gives l.initial.f (numbered (rule l.self.wide) 0 (map (λ label. label.now) (take l.power l.labels))) l.f
