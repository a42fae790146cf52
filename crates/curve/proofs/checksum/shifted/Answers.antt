use Rattle.std.proofs.Common.{◌≡◌, ◌%◌, ◌+◌, ◌*◌, ◌/◌, ◌≢◌, ◌∙◌, arith, rules, sym, eq-eqb}
use Rattle.std.specs.Prelude.{bit_and, bit_xor, ◌==◌, cond}
use Rattle.std.proofs.lemmas.Nat.Bits.{and_pow, bit_at_lowest}
use Rattle.curve.specs.Checksum.{shifted as shifted_remainder}
use Rattle.curve.proofs.checksum.shifted.Goals as goal

pub returns-then-remainder-eq1 : goal.returns-then-remainder-eq1
unfolding shifted_remainder
returns-then-remainder-eq1 c =
    let low : bit_and c.args.remainder 1 ≡ c.args.remainder % 2 = grind (arith, and_pow c.args.remainder 0, bit_at_lowest c.args.remainder) in
    let one : c.args.remainder % 2 ≡ 1 = sym low ∙ c.if-remainder-eq1.true in
    rw one

pub returns-else-remainder-eq1 : goal.returns-else-remainder-eq1
unfolding shifted_remainder
returns-else-remainder-eq1 c =
    let low : bit_and c.args.remainder 1 ≡ c.args.remainder % 2 = grind (arith, and_pow c.args.remainder 0, bit_at_lowest c.args.remainder) in
    let none : c.args.remainder % 2 ≡ 0 = omega (arith, c.if-remainder-eq1.false) in
    rw none
