use Rattle.std.proofs.Common.{◌≡◌}
use Rattle.code.specs.Numbers.{bit_of}
use Rattle.receiver.specs.Values.{signed, with_values}
use Rattle.receiver.proofs.values.set_bits.Given as goal

abbrev pub invariant-loop-i : goal.invariant-loop-i
invariant-loop-i l = l.run ≡ with_values l.initial.run 0 (λ i. signed l.weight (bit_of l.bits l.number i)) l.i
