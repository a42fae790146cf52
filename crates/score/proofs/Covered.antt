-- A block's score takes the value of each sent bit exactly once.
-- Assumes nothing.
use Rattle.std.proofs.Common.{◌≡◌, ℕ, zero, suc, ◌+◌, ◌*◌, ◌/◌, ◌%◌, ◌<◌, Bool, true, false, cond, eqb, List, [], ◌∷◌, ◌++◌, length, get_or, ℤ, sym, refl, ap, ◌∙◌, add-zero, div-add-mod', zero-add, arith}
use Rattle.std.proofs.lemmas.Nat.{div-mul-add, mod-mul-add}
use Rattle.std.proofs.lemmas.Bool.{and_parts, ltb-true}
use Rattle.plan.specs.Scheme.{Scheme, sent_length}
use Rattle.plan.specs.Questions.{all_below}
use Rattle.plan.proofs.Facts.{Facts}
use Rattle.code.specs.Coding.{coded, mother}
use Rattle.code.specs.Sending.{location}
use Rattle.code.proofs.Pairs.{mother_first, mother_second}
use Rattle.score.specs.Scale.{Scale}
use Rattle.score.specs.Blocks.{named_from, named, absorbed, step_values, step_score, score_after, block_score}
use Rattle.score.specs.Sums.{extended_by, sum_below, sum_of, heard, TakesEachOnce}
use Rattle.score.proofs.SumsBelow.{sum_same, sum_add, sum_runs, sum_pairs, sum_front, sum_point, sum_none}

sum_of_append : (g : ℤ × Bool → ℕ) (ps qs : List (ℤ × Bool)) → sum_of g (ps ++ qs) ≡ sum_of g ps + sum_of g qs
sum_of_append g [] qs = omega arith
sum_of_append g (p ∷ ps) qs = let r = sum_of_append g ps qs in omega arith

-- values, each with the same bit
abbrev with_bit : List ℤ → Bool → List (ℤ × Bool)
with_bit [] bit = []
with_bit (v ∷ vs) bit = (v, bit) ∷ with_bit vs bit

extended_append : {S : Type 0} (k : Scale S) (ps qs : List (ℤ × Bool)) (a : S) → extended_by k (ps ++ qs) a ≡ extended_by k qs (extended_by k ps a)
extended_append k [] qs a = refl
extended_append k (p ∷ ps) qs a = extended_append k ps qs (k.extended a p.0 p.1)

absorbed_is : {S : Type 0} (k : Scale S) (vs : List ℤ) (bit : Bool) (a : S) → absorbed k vs bit a ≡ extended_by k (with_bit vs bit) a
absorbed_is k [] bit a = refl
absorbed_is k (v ∷ vs) bit a = absorbed_is k vs bit (k.extended a v bit)

module _ (s : Scheme) (values : ℕ → ℤ) (u : ℕ → Bool) where
  -- what step t takes, in its order
  abbrev step_taken : ℕ → List (ℤ × Bool)
  step_taken t = with_bit (step_values s values t).0 (coded s u t).0 ++ with_bit (step_values s values t).1 (coded s u t).1

  -- what the first t steps take, in their order
  abbrev taken_to : ℕ → List (ℤ × Bool)
  taken_to zero = []
  taken_to (suc t) = taken_to t ++ step_taken t

  after_is : {S : Type 0} (k : Scale S) (t : ℕ) → score_after k s values u t ≡ extended_by k (taken_to t) k.start
  unfolding step_score
  after_is k zero = refl
  after_is k (suc t) =
      let first = with_bit (step_values s values t).0 (coded s u t).0 in
      let second = with_bit (step_values s values t).1 (coded s u t).1 in
      let a = score_after k s values u t in
      absorbed_is k (step_values s values t).1 (coded s u t).1 (absorbed k (step_values s values t).0 (coded s u t).0 a)
      ∙ ap (extended_by k second) (absorbed_is k (step_values s values t).0 (coded s u t).0 a)
      ∙ sym (extended_append k first second a)
      ∙ ap (extended_by k (first ++ second)) (after_is k t)
      ∙ sym (extended_append k (taken_to t) (first ++ second) k.start)

  module _ (g : ℤ × Bool → ℕ) where
    -- the measure of a sent bit
    abbrev at_sent : ℕ → ℕ
    at_sent n = g (heard s values u n)

    -- the measure at place i of run j, for the bit e of the run's period
    abbrev at_place : ℕ → ℕ → ℕ → ℕ
    at_place j i e = g (values (location s (j * length s.entries + i)), mother s u (2 * s.period * j + e))

    -- the measure of what names bit e of run j, from place i on
    abbrev names : ℕ → ℕ → ℕ → List ℕ → ℕ
    names j e i xs = sum_of g (with_bit (named_from s values j e i xs) (mother s u (2 * s.period * j + e)))

    names_more : (j e i x : ℕ) (xs : List ℕ) → names j e i (x ∷ xs) ≡ cond (eqb x e) (at_place j i e) 0 + names j e (i + 1) xs
    names_more j e i x xs = elim (eqb x e) as (λ b. sum_of g (with_bit (cond b (values (location s (j * length s.entries + i)) ∷ named_from s values j e (i + 1) xs) (named_from s values j e (i + 1) xs)) (mother s u (2 * s.period * j + e))) ≡ cond b (at_place j i e) 0 + names j e (i + 1) xs) [ true ↦ refl | false ↦ sym (zero-add _) ]

    first_apart : (j i x : ℕ) (xs : List ℕ) → sum_below (λ n. at_place j (i + n) (get_or (x ∷ xs) n 0)) (suc (length xs)) ≡ at_place j i x + sum_below (λ n. at_place j (i + 1 + n) (get_or xs n 0)) (length xs)
    first_apart j i x xs =
        sum_front (λ n. at_place j (i + n) (get_or (x ∷ xs) n 0)) (length xs)
        ∙ ap (λ m. at_place j m x + sum_below (λ n. at_place j (i + suc n) (get_or xs n 0)) (length xs)) (add-zero i)
        ∙ ap (λ a. at_place j i x + a) (sum_same (λ n. at_place j (i + suc n) (get_or xs n 0)) (λ n. at_place j (i + 1 + n) (get_or xs n 0)) (length xs) (λ n _. ap (λ m. at_place j m (get_or xs n 0)) (let z : i + suc n ≡ i + 1 + n = omega arith in z)))

    -- each entry is one bit of the period: all bits together name every place once
    run_sum : (bound j i : ℕ) (xs : List ℕ) → all_below bound xs ≡ true → sum_below (λ e. names j e i xs) bound ≡ sum_below (λ n. at_place j (i + n) (get_or xs n 0)) (length xs)
    run_sum bound j i [] h = sum_none bound
    run_sum bound j i (x ∷ xs) h =
        let p = and_parts _ _ h in
        sum_same (λ e. names j e i (x ∷ xs)) (λ e. cond (eqb x e) (at_place j i e) 0 + names j e (i + 1) xs) bound (λ e _. names_more j e i x xs)
        ∙ sum_add (λ e. cond (eqb x e) (at_place j i e) 0) (λ e. names j e (i + 1) xs) bound
        ∙ ap (λ a. a + sum_below (λ e. names j e (i + 1) xs) bound) (sum_point (at_place j i) x bound (ltb-true x bound p.0))
        ∙ ap (λ a. at_place j i x + a) (run_sum bound j (i + 1) xs p.1)
        ∙ sym (first_apart j i x xs)

    -- step r of run j takes what names its two bits
    step_sum : (j r : ℕ) → r < s.period → sum_of g (step_taken (j * s.period + r)) ≡ names j (2 * r) 0 s.entries + names j (2 * r + 1) 0 s.entries
    unfolding named
    step_sum j r h =
        let t = j * s.period + r in
        let d : t / s.period ≡ j = div-mul-add j s.period r h in
        let m : t % s.period ≡ r = mod-mul-add j s.period r h in
        let e0 : 2 * t ≡ 2 * s.period * j + 2 * r = omega arith in
        let e1 : 2 * t + 1 ≡ 2 * s.period * j + (2 * r + 1) = omega arith in
        let c0 : (coded s u t).0 ≡ mother s u (2 * s.period * j + 2 * r) = sym (mother_first s u t) ∙ ap (mother s u) e0 in
        let c1 : (coded s u t).1 ≡ mother s u (2 * s.period * j + (2 * r + 1)) = sym (mother_second s u t) ∙ ap (mother s u) e1 in
        sum_of_append g (with_bit (step_values s values t).0 (coded s u t).0) (with_bit (step_values s values t).1 (coded s u t).1)
        ∙ (λ i.
        sum_of g (with_bit (named_from s values (d i) (2 * m i) 0 s.entries) (c0 i))
        + sum_of g (with_bit (named_from s values (d i) (2 * m i + 1) 0 s.entries) (c1 i)))

    place_sent : (j n : ℕ) → n < length s.entries → at_place j (0 + n) (get_or s.entries n 0) ≡ at_sent (j * length s.entries + n)
    place_sent j n h =
        let d = div-mul-add j (length s.entries) n h in
        let m = mod-mul-add j (length s.entries) n h in
        rw (zero-add, d, m)

    -- the steps of run j take its sent bits
    run_is : Facts s → (j : ℕ) → sum_below (λ r. sum_of g (step_taken (j * s.period + r))) s.period ≡ sum_below (λ n. at_sent (j * length s.entries + n)) (length s.entries)
    run_is f j =
        sum_same (λ r. sum_of g (step_taken (j * s.period + r))) (λ r. names j (2 * r) 0 s.entries + names j (2 * r + 1) 0 s.entries) s.period (step_sum j)
        ∙ sym (sum_pairs (λ e. names j e 0 s.entries) s.period)
        ∙ run_sum (2 * s.period) j 0 s.entries f.entries_below
        ∙ sum_same (λ n. at_place j (0 + n) (get_or s.entries n 0)) (λ n. at_sent (j * length s.entries + n)) (length s.entries) (place_sent j)

    steps_sum : (t : ℕ) → sum_of g (taken_to t) ≡ sum_below (λ i. sum_of g (step_taken i)) t
    steps_sum zero = refl
    steps_sum (suc t) = sum_of_append g (taken_to t) (step_taken t) ∙ ap (λ a. a + sum_of g (step_taken t)) (steps_sum t)

    -- what a block takes is every sent bit, once
    covered : Facts s → sum_of g (taken_to s.block) ≡ sum_below at_sent (sent_length s)
    covered f =
        let p = s.period in
        let m = length s.entries in
        let q = s.block / p in
        let w = div-add-mod' s.block p in
        let n = f.block_whole in
        let whole : s.block ≡ q * p = omega arith in
        steps_sum s.block
        ∙ ap (sum_below (λ i. sum_of g (step_taken i))) whole
        ∙ sum_runs (λ i. sum_of g (step_taken i)) q p
        ∙ sum_same (λ j. sum_below (λ r. sum_of g (step_taken (j * p + r))) p) (λ j. sum_below (λ n. at_sent (j * m + n)) m) q (λ j _. run_is f j)
        ∙ sym (sum_runs at_sent q m)

  pub takes_each_once : {S : Type 0} (k : Scale S) → Facts s → TakesEachOnce k s values u (block_score k s values u)
  unfolding block_score
  takes_each_once k f = record { taken = taken_to s.block; extends = after_is k s.block; each = λ g. covered g f }
