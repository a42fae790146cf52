-- The states of the register come round after 511 shifts, and not before.
-- Assumes nothing.
use Rattle.std.proofs.Common.{◌≡◌, ℕ, zero, suc, ◌+◌, ◌-◌, ◌*◌, ◌/◌, ◌%◌, ◌<◌, Bool, true, not, ◌&&◌, eqb, sym, refl, ap, ◌∙◌, ⊎_elim, le_of_suc-le-suc, arith}
use Rattle.std.proofs.lemmas.Nat.{div-add-mod'}
use Rattle.std.proofs.lemmas.Bool.{and_parts, not-true, eqb-false, cases_order}
use Rattle.scrambler.specs.Shifts.{shift, shifts, state_after, HasPeriod511}
use Rattle.scrambler.proofs.Shifting.{shifts_add}

-- none of the first n states from r on is the load
abbrev never_one : ℕ → ℕ → Bool
never_one r zero = true
never_one r (suc n) = not (eqb r 1) && never_one (shift r) n

-- the test at the 510 states after the load
no_early_return : never_one 2 510 ≡ true
no_early_return = refl

shifts_first : (n r : ℕ) → shifts (suc n) r ≡ shifts n (shift r)
unfolding shifts
shifts_first zero r = refl
shifts_first (suc n) r = ap shift (shifts_first n r)

never_one_means : (n r k : ℕ) → never_one r n ≡ true → k < n → shifts k r ≡ 1 → ⊥
unfolding shifts
never_one_means zero r k t h e = absurd (omega arith)
never_one_means (suc n) r zero t h e = eqb-false r 1 (not-true (eqb r 1) (and_parts (not (eqb r 1)) _ t).0) e
never_one_means (suc n) r (suc k) t h e =
    never_one_means n (shift r) k (and_parts (not (eqb r 1)) _ t).1 (le_of_suc-le-suc h) (sym (shifts_first k r) ∙ e)

once_round : state_after 511 ≡ 1
unfolding shifts
once_round = refl

early : (k : ℕ) → k < 510 → state_after (suc k) ≡ 1 → ⊥
early k h e = never_one_means 510 2 k no_early_return h (sym (shifts_first k 1) ∙ e)

around : (k n : ℕ) → state_after (n + k * 511) ≡ state_after n
around zero n = ap state_after (omega arith)
around (suc k) n = ap state_after (omega arith) ∙ shifts_add (n + k * 511) 511 1 ∙ ap (shifts (n + k * 511)) once_round ∙ around k n

reduced : (m : ℕ) → state_after m ≡ state_after (m % 511)
reduced m = let split = div-add-mod' m 511 in ap state_after (omega arith) ∙ around (m / 511) (m % 511)

-- within a period no state comes twice
apart : (a b : ℕ) → a < b → b < 511 → state_after a ≡ state_after b → ⊥
apart a b h k e =
    let rest = 511 - b in
    let d = rest + a - 1 in
    early d (omega arith)
    (ap state_after (omega arith) ∙ shifts_add rest a 1 ∙ ap (shifts rest) e ∙ sym (shifts_add rest b 1) ∙ ap state_after (omega arith) ∙ once_round)

same_count : (a b : ℕ) → a < 511 → b < 511 → state_after a ≡ state_after b → a ≡ b
same_count a b h k e =
    ⊎_elim (λ s. s) (⊎_elim (λ s. absurd (apart a b s k e)) (λ s. absurd (apart b a s h (sym e)))) (cases_order a b)

pub has_period_511 : HasPeriod511
has_period_511 m n = (
  λ e. same_count (m % 511) (n % 511) (omega arith) (omega arith) (sym (reduced m) ∙ e ∙ reduced n),
  λ e. reduced m ∙ ap state_after e ∙ sym (reduced n),
)
