-- Setting the values of a stretch of locations: what is read after it, and the front of a longer memory.
-- Assumes nothing.
use Rattle.std.proofs.Common.{◌≡◌, ℕ, zero, suc, ◌+◌, ◌<◌, ◌≤◌, ◌≢◌, List, [], ◌∷◌, length, get_or, take, drop, set, ℤ, sym, refl, ap, ◌∙◌, ⊎_elim, arith}
use Rattle.std.proofs.lemmas.List.{length-set, get_or-set_same, get_or-set_other, drop-set-lt}
use Rattle.std.proofs.lemmas.Bool.{cases_eq}
use Rattle.receiver.specs.Values.{with_values}

pub take_of_set : {X : Type 0} (n i : ℕ) (xs : List X) (x : X) → take n (set xs i x) ≡ set (take n xs) i x
take_of_set zero i xs x = refl
take_of_set (suc n) i [] x = refl
take_of_set (suc n) zero (y ∷ ys) x = refl
take_of_set (suc n) (suc i) (y ∷ ys) x = ap (λ l. y ∷ l) (take_of_set n i ys x)

module _ (first : ℕ) (f : ℕ → ℤ) where
  pub with_long : (memory : List ℤ) (n : ℕ) → length (with_values memory first f n) ≡ length memory
  with_long memory zero = refl
  with_long memory (suc n) = length-set (with_values memory first f n) (first + n) (f n) ∙ with_long memory n

  -- what lies before or behind the stretch stays
  pub with_outside : (memory : List ℤ) (n l : ℕ) (d : ℤ) → ((i : ℕ) → i < n → l ≢ first + i) → get_or (with_values memory first f n) l d ≡ get_or memory l d
  with_outside memory zero l d apart = refl
  with_outside memory (suc n) l d apart =
      get_or-set_other (with_values memory first f n) (first + n) l (f n) d (apart n (omega arith)) ∙ with_outside memory n l d (λ i h. apart i (omega arith))

  -- a location of the stretch holds its value
  pub with_inside : (memory : List ℤ) (n i : ℕ) (d : ℤ) → i < n → first + n ≤ length memory → get_or (with_values memory first f n) (first + i) d ≡ f i
  with_inside memory zero i d h long = absurd (omega arith)
  with_inside memory (suc n) i d h long =
      let kept = with_long memory n in
      ⊎_elim
      (λ is. ap (λ j. get_or (set (with_values memory first f n) (first + n) (f n)) (first + j) d) is
      ∙ get_or-set_same (with_values memory first f n) (first + n) (f n) d (omega arith) ∙ ap f (sym is))
      (λ ne. let apart : i ≢ n = ne in
      get_or-set_other (with_values memory first f n) (first + n) (first + i) (f n) d (omega arith) ∙ with_inside memory n i d (omega arith) (omega arith))
      (cases_eq i n)

  -- the front of a memory is set as the memory is
  pub with_front : (memory : List ℤ) (n count : ℕ) → take count (with_values memory first f n) ≡ with_values (take count memory) first f n
  with_front memory zero count = refl
  with_front memory (suc n) count = take_of_set count (first + n) (with_values memory first f n) (f n) ∙ ap (λ l. set l (first + n) (f n)) (with_front memory n count)

  -- and the rest stays, where the stretch lies in the front
  pub with_rest : (memory : List ℤ) (n count : ℕ) → first + n ≤ count → drop count (with_values memory first f n) ≡ drop count memory
  with_rest memory zero count h = refl
  with_rest memory (suc n) count h = drop-set-lt count (with_values memory first f n) (first + n) (f n) (omega arith) ∙ with_rest memory n count (omega arith)
