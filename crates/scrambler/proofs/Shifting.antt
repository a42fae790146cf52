-- Shifts of the register: they stay within nine bits, and add up.
-- Assumes nothing.
use Rattle.std.proofs.Common.{◌≡◌, ℕ, zero, suc, ◌+◌, ◌-◌, ◌*◌, ◌/◌, ◌%◌, ◌^◌, ◌<◌, ◌≤◌, sym, refl, ap, ◌∙◌, mul_comm, add-mul, suc-add, zero-add, zero-mul, add-one, arith}
use lib.Bits.{bit_and, bit_or, bit_xor}
use Rattle.std.proofs.lemmas.Nat.{and_mask, xor_mod, or_shifted, one_shl}
use Rattle.scrambler.specs.Shifts.{fresh, shift, shifts, state_after}

xor_bits : (a b : ℕ) → a < 2 → b < 2 → bit_xor a b ≡ (a + b) % 2
xor_bits zero zero h k = refl
xor_bits zero (suc zero) h k = refl
xor_bits (suc zero) zero h k = refl
xor_bits (suc zero) (suc zero) h k = refl
xor_bits (suc (suc a)) b h k = absurd (omega arith)
xor_bits zero (suc (suc b)) h k = absurd (omega arith)
xor_bits (suc zero) (suc (suc b)) h k = absurd (omega arith)

pub fresh_coded : (r : ℕ) → bit_and (bit_xor (r / 256) (r / 16)) 1 ≡ fresh r
fresh_coded r =
    and_mask (bit_xor (r / 256) (r / 16)) 1 ∙ xor_mod (r / 256) (r / 16) 1 ∙ xor_bits (r / 256 % 2) (r / 16 % 2) (omega arith) (omega arith)

pub shift_coded : (r : ℕ) → r < 512 → bit_and (bit_or ((r * 2) % 65536) (fresh r)) 511 ≡ shift r
shift_coded r h =
    let double : (r * 2) % 65536 ≡ r * 2 = omega arith in
    let low : fresh r < 2 = omega arith in
    and_mask (bit_or ((r * 2) % 65536) (fresh r)) 9
    ∙ ap (λ x. bit_or x (fresh r) % 512) double
    ∙ ap (λ x. x % 512) (or_shifted r 1 (fresh r) low)
    ∙ ap (λ x. (x + fresh r) % 512) (mul_comm r 2)

pub low_coded : (r w : ℕ) → w ≤ 8 → bit_and r ((1 * 2 ^ w) % 65536 - 1) ≡ r % 2 ^ w
low_coded r w h = ap (λ x. bit_and r (x - 1)) (one_shl w 16 (omega arith)) ∙ and_mask r w

pub shifts_more : (n r : ℕ) → shifts (n + 1) r ≡ shift (shifts n r)
unfolding shifts
shifts_more n r = rw add-one refl

pub shifts_below : (n r : ℕ) → r < 512 → shifts n r < 512
unfolding shifts
shifts_below zero r h = h
shifts_below (suc n) r h = omega arith

pub shifts_add : (m n r : ℕ) → shifts (m + n) r ≡ shifts m (shifts n r)
unfolding shifts
shifts_add zero n r = rw zero-add refl
shifts_add (suc m) n r = rw suc-add (ap shift (shifts_add m n r))

-- the register as it is loaded
pub loaded : (width : ℕ) → state_after (0 * width) ≡ 1
unfolding shifts
loaded width = rw zero-mul refl

-- the state at a place, shifted on from the state at an earlier one
pub onward : (width from to : ℕ) → from ≤ to → shifts ((to - from) * width) (state_after (from * width)) ≡ state_after (to * width)
onward width from to h =
    sym (shifts_add ((to - from) * width) (from * width) 1)
    ∙ ap state_after (sym (add-mul (to - from) from width) ∙ ap (λ n. n * width) (omega arith))

pub state_below : (n : ℕ) → state_after n < 512
state_below n = shifts_below n 1 (omega arith)
