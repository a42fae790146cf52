-- The numbers that a loop closes one after another.
-- Assumes nothing.
use Rattle.std.proofs.Common.{◌≡◌, ℕ, ◌+◌, ◌<◌, ◌≤◌, Bool, true, false, not, ◌&&◌, List, length, get_or, set, get_or-set_same, get_or-set_other, length-set, cond, refl, sym, ap, ◌∙◌, ⊎_elim, arith}
use Rattle.std.proofs.Math.Bool.{and-true, and-false}
use Rattle.std.proofs.lemmas.Bool.{cases_eq, cases_lt, cases_Bool, cond-true, cond-false}
use Rattle.std.proofs.lemmas.List.{get_or_past}

module _ (hit : ℕ → Bool) (before : List Bool) where
  -- of the numbers below n those that are hit are closed
  pub record ClosedBelow (n : ℕ) (left : List Bool) : Type 0 where
    pub below : (x : ℕ) → x < n → get_or left x false ≡ (get_or before x false && not (hit x))
    pub above : (x : ℕ) → n ≤ x → get_or left x false ≡ get_or before x false

  pub closed_none : ClosedBelow 0 before
  closed_none = record { below = λ x l. absurd (omega arith); above = λ x l. refl }

  closed_skips : (n : ℕ) (left left' : List Bool) → hit n ≡ false → left' ≡ left → ClosedBelow n left → ClosedBelow (n + 1) left'
  closed_skips n left left' miss e c = record {
    below = λ x l. ap (λ xs. get_or xs x false) e ∙ ⊎_elim
        (λ here. c.above x (omega arith) ∙ sym (and-true (get_or before x false)) ∙ ap (λ b. get_or before x false && not b) (sym (ap hit here ∙ miss)))
        (λ ne. c.below x (omega arith)) (cases_eq x n);
    above = λ x l. ap (λ xs. get_or xs x false) e ∙ c.above x (omega arith);
  }

  -- a place that is set to false reads false, and so does one past the end
  reads_false : (left : List Bool) (n : ℕ) → get_or (set left n false) n false ≡ false
  reads_false left n = ⊎_elim (λ l. get_or-set_same left n false false l) (λ g. get_or_past (set left n false) n false (omega (arith, length-set left n false))) (cases_lt n (length left))

  closed_takes : (n : ℕ) (left left' : List Bool) → hit n ≡ true → left' ≡ set left n false → ClosedBelow n left → ClosedBelow (n + 1) left'
  closed_takes n left left' is e c = record {
    below = λ x l. ap (λ xs. get_or xs x false) e ∙ ⊎_elim
        (λ here. ap (λ y. get_or (set left n false) y false) here ∙ reads_false left n ∙ sym (and-false (get_or before x false)) ∙ ap (λ b. get_or before x false && not b) (sym (ap hit here ∙ is)))
        (λ ne. get_or-set_other left n x false false ne ∙ c.below x (omega arith)) (cases_eq x n);
    above = λ x l. ap (λ xs. get_or xs x false) e ∙ get_or-set_other left n x false false (λ q. omega arith) ∙ c.above x (omega arith);
  }

  pub closed_more : (n : ℕ) (left left' : List Bool) → left' ≡ cond (hit n) (set left n false) left → ClosedBelow n left → ClosedBelow (n + 1) left'
  closed_more n left left' e c = ⊎_elim
      (λ is. closed_takes n left left' is (e ∙ cond-true (hit n) _ _ is) c)
      (λ miss. closed_skips n left left' miss (e ∙ cond-false (hit n) _ _ miss) c)
      (cases_Bool (hit n))
