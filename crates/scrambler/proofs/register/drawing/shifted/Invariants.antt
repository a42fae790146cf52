use Rattle.std.proofs.Common.{◌≡◌}
use Rattle.scrambler.specs.Shifts.{shifts}
use Rattle.scrambler.proofs.register.drawing.shifted.Given as goal

abbrev pub invariant-loop : goal.invariant-loop
invariant-loop l = l.now ≡ shifts l.counter l.state
