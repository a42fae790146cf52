use Rattle.std.proofs.Common.{◌≡◌}
use Rattle.std.specs.Prelude.{bit_xor}
use Rattle.curve.specs.Checksum.{shifts}
use Rattle.curve.proofs.checksum.taken_in.Given as goal

-- so many steps are made
abbrev pub invariant-loop-step : goal.invariant-loop-step
invariant-loop-step l = l.now ≡ shifts l._step (bit_xor l.fn.remainder l.fn.byte)
