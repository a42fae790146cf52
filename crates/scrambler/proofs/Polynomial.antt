-- The bits that enter the register obey its polynomial.
-- Assumes nothing.
use Rattle.std.proofs.Common.{◌≡◌, ℕ, zero, suc, ◌+◌, ◌/◌, ◌%◌, ◌^◌, sym, refl, ap, ◌∙◌, mod-eq_of_lt, one-add, arith}
use Rattle.std.proofs.lemmas.Nat.{shr-shr, field_of, mod-pow-add, pow_below}
use Rattle.scrambler.specs.Shifts.{bit, fresh, shift, shifts, state_after, newest, StartsWithOne, ObeysPolynomial}
use Rattle.scrambler.proofs.Shifting.{shifts_more, shifts_add, loaded}

pub starts_with_one : StartsWithOne
starts_with_one width h = ap (λ r. r % 2 ^ width) (loaded width) ∙ mod-eq_of_lt (pow_below 0 width h)

mod_two : (x j : ℕ) → x % 2 ^ (j + 1) % 2 ≡ x % 2
mod_two x j = omega (arith, mod-pow-add x j 1)

half : (r : ℕ) → shift r / 2 ≡ r % 256
half r = omega arith

-- a shift moves every bit but the last one place to the left
carried : (i j r : ℕ) → (j + 1) + i ≡ 8 → bit (suc i) (shift r) ≡ bit i r
carried i j r e =
    ap (λ n. shift r / 2 ^ n % 2) (sym (one-add i))
    ∙ ap (λ x. x % 2) (sym (shr-shr (shift r) 1 i) ∙ ap (λ x. x / 2 ^ i) (half r) ∙ ap (λ n. r % 2 ^ n / 2 ^ i) (sym e) ∙ field_of r (j + 1) i)
    ∙ mod_two (r / 2 ^ i) j

-- after i shifts, bit i is the bit that was the rightmost
risen : (i j r : ℕ) → j + i ≡ 8 → bit i (shifts i r) ≡ bit 0 r
unfolding shifts
risen zero j r e = refl
risen (suc i) j r e = carried i j (shifts i r) (omega arith) ∙ risen i (j + 1) r (omega arith)

entered : (r : ℕ) → bit 0 (shift r) ≡ fresh r
entered r = omega arith

pub obeys_polynomial : ObeysPolynomial
obeys_polynomial n =
    let s = state_after (n + 8) in
    let last : state_after (n + 9) ≡ shift s = ap state_after (omega arith) ∙ shifts_more (n + 8) 1 in
    let eight : s ≡ shifts 8 (state_after n) = ap state_after (omega arith) ∙ shifts_add 8 n 1 in
    let four : s ≡ shifts 4 (state_after (n + 4)) = ap state_after (omega arith) ∙ shifts_add 4 (n + 4) 1 in
    ap (bit 0) last ∙ entered s
    ∙ ap (λ x. (x + bit 4 s) % 2) (ap (bit 8) eight ∙ risen 8 0 (state_after n) refl)
    ∙ ap (λ x. (newest n + x) % 2) (ap (bit 4) four ∙ risen 4 4 (state_after (n + 4)) refl)
