-- The numbers that bits write: windows, states and the state before.
-- Assumes nothing.
use Rattle.std.proofs.Common.{◌≡◌, ℕ, zero, suc, ◌+◌, ◌-◌, ◌*◌, ◌/◌, ◌%◌, ◌^◌, ◌<◌, ◌≤◌, Bool, true, false, eqb, sym, refl, ap, ◌∙◌, div-one, arith}
use native.Mathlib.Nat.{add-mod_left, div-eq_of_lt}
use mir.Val.{bool_byte}
use Rattle.std.proofs.lemmas.Nat.{shr-shr}
use Rattle.code.specs.Numbers.{digit, num, bit_of}
use Rattle.code.proofs.Blocks.{digit_le, num_high, num_same}
use Rattle.trellis.specs.Steps.{around}
use Rattle.trellis.specs.Survivors.{before}

-- a bit as a byte is its digit
pub byte_digit : (b : Bool) → bool_byte b ≡ digit b
byte_digit true = refl
byte_digit false = refl

-- one more bit on the right is taken off again
pub high_bits : (x : ℕ) (b : Bool) → (2 * x + digit b) / 2 ≡ x
high_bits x b = omega (arith, digit_le b)

-- a number below 2 is a digit
digit_of : (r : ℕ) → r < 2 → digit (eqb r 1) ≡ r
digit_of zero l = refl
digit_of (suc zero) l = refl
digit_of (suc (suc r)) l = absurd (omega arith)

-- the state before a step, from the state after it
pub num_before : (f : ℕ → Bool) (m t : ℕ) → before m (f t) (num f m (suc t)) ≡ num f m t
num_before f m t = rw (← num_high f m t) (high_bits (num f m t) (f (t + m)))

-- the first bits of a number write its high part
num_bits_part : (m x n : ℕ) → n ≤ m → x < 2 ^ m → num (bit_of m x) n 0 ≡ x / 2 ^ (m - n)
num_bits_part m x zero h l =
    let z : m - 0 ≡ m = omega arith in
    rw z (sym (div-eq_of_lt l))
num_bits_part m x (suc n) h l =
    let ih = num_bits_part m x n (omega arith) l in
    let z : m - n ≡ (m - suc n) + 1 = omega arith in
    let e : m - 1 - (0 + n) ≡ m - suc n = omega arith in
    let y = x / 2 ^ (m - suc n) in
    let q : x / 2 ^ (m - n) ≡ y / 2 = ap (λ k. x / 2 ^ k) z ∙ sym (shr-shr x (m - suc n) 1) in
    let d : digit (bit_of m x (0 + n)) ≡ y % 2 = ap (λ k. digit (eqb (x / 2 ^ k % 2) 1)) e ∙ digit_of (y % 2) (omega arith) in
    omega arith

-- the number that a number's bits write
pub num_bits : (m x : ℕ) → x < 2 ^ m → num (bit_of m x) m 0 ≡ x
num_bits m x l =
    let z : m - m ≡ 0 = omega arith in
    num_bits_part m x m (omega arith) l ∙ ap (λ k. x / 2 ^ k) z ∙ div-one x

-- the state comes round with the block
pub num_around : (u : ℕ → Bool) (m size : ℕ) → num (around size u) m size ≡ num (around size u) m 0
num_around u m size = num_same (around size u) (around size u) m size 0 (λ i l. ap u (add-mod_left size i ∙ ap (λ j. j % size) (omega arith)))
