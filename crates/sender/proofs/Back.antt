-- Scrambling is taken off again.
-- Assumes nothing.
use Rattle.std.proofs.Common.{◌≡◌, ℕ, ◌+◌, ◌-◌, ◌%◌, ◌^◌, ◌<◌, Bool, true, false, cond, leb, ap, ◌∙◌, arith}
use lib.Bits.{bit_xor, xor_assoc, xor_self, xor_zero_r, xor_lt}
use Rattle.sender.specs.Scrambling.{scrambled, unscrambled}
use Rattle.sender.specs.Laws.{ComesBack}

sum_back : (y v : ℕ) → y < 8 → v < 8 → ((y + v) % 8 + (8 - v % 8)) % 8 ≡ y
sum_back y v h k = omega arith

exclusive_back : (y v : ℕ) → bit_xor (bit_xor y v) v ≡ y
exclusive_back y v = xor_assoc y v v ∙ ap (bit_xor y) (xor_self v) ∙ xor_zero_r y

-- either way of scrambling, by whether the symbols have few bits
back_by : (few : Bool) (q y v : ℕ) → y < 2 ^ cond few 3 q → v < 2 ^ cond few 3 q →
    (cond few ((y + v) % 8) (bit_xor y v) < 2 ^ cond few 3 q) ×
    (cond few ((cond few ((y + v) % 8) (bit_xor y v) + (8 - v % 8)) % 8) (bit_xor (cond few ((y + v) % 8) (bit_xor y v)) v) ≡ y)
back_by true q y v h k = (omega arith, sum_back y v h k)
back_by false q y v h k = (xor_lt q y v h k, exclusive_back y v)

pub comes_back : ComesBack
unfolding scrambled unscrambled
comes_back q y v h k = back_by (leb q 3) q y v h k
