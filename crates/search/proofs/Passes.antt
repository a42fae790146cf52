-- A pass, step after step: the old column holds the survivors, the memory the marks.
-- Assumes nothing.
use Rattle.std.proofs.Common.{◌≡◌, ℕ, ◌+◌, ◌^◌, ◌<◌, ◌≤◌, Bool, List, get_or, replicate, ℤ, Option, sym, refl, ap, ◌∙◌, ⊎_elim, add-one, arith}
use Rattle.std.proofs.lemmas.List.{get_or-replicate}
use Rattle.std.proofs.lemmas.Bool.{cases_eq}
use Rattle.plan.specs.Scheme.{Scheme}
use Rattle.score.specs.Scale.{Scale}
use Rattle.score.specs.Blocks.{step_values, step_score}
use Rattle.trellis.specs.Marks.{marked}
use Rattle.trellis.specs.Survivors.{next_mark, next, survivor, mark}
use Rattle.trellis.proofs.Columns.{mark_same, next_same}
use Rattle.search.specs.Searching.{steps, steps_with, column}

module _ {S : Type 0} (k : Scale S) (s : Scheme) (values : ℕ → ℤ) (m : ℕ) (forced : ℕ → Option Bool) where
  -- after the first t steps
  pub record Passed (t : ℕ) (scores : List S) (marks : List ℕ) : Type 0 where
    pub scored : (i : ℕ) → i < 2 ^ m → get_or scores i k.start ≡ survivor (steps k s values) m forced t i
    pub kept : (j i : ℕ) → j < t → i < 2 ^ m → marked m marks j i ≡ mark (steps k s values) m forced j i

  pub passed_none : (n : ℕ) (scores : List S) (marks : List ℕ) → 2 ^ m ≤ n → scores ≡ replicate n k.start → Passed 0 scores marks
  unfolding survivor
  passed_none n scores marks l e = record {
    scored = λ i b. ap (λ xs. get_or xs i k.start) e ∙ get_or-replicate n i k.start k.start (omega arith);
    kept = λ j i l b. absurd (omega arith);
  }

  -- a step whose values are at hand
  abbrev mark_with : List ℤ × List ℤ → Option Bool → List S → ℕ → Bool
  mark_with both f scores i = next_mark (steps_with k s.constraint both) m f 0 (column k scores) i

  abbrev next_with : List ℤ × List ℤ → Option Bool → List S → ℕ → S
  next_with both f scores i = next (steps_with k s.constraint both) m f 0 (column k scores) i

  -- is that step
  mark_is : (t : ℕ) (f : Option Bool) (scores : List S) (i : ℕ) → mark_with (step_values s values t) f scores i ≡ next_mark (steps k s values) m f t (column k scores) i
  unfolding step_score
  mark_is t f scores i = refl

  next_is : (t : ℕ) (f : Option Bool) (scores : List S) (i : ℕ) → next_with (step_values s values t) f scores i ≡ next (steps k s values) m f t (column k scores) i
  unfolding step_score
  next_is t f scores i = refl

  pub passed_more : (t : ℕ) (scores scores' after : List S) (marks marks' : List ℕ) (both : List ℤ × List ℤ) (f : Option Bool) →
      after ≡ scores' → both ≡ step_values s values t → f ≡ forced t →
      ((i : ℕ) → i < 2 ^ m → get_or scores' i k.start ≡ next_with both f scores i) →
      ((i : ℕ) → i < 2 ^ m → marked m marks' t i ≡ mark_with both f scores i) →
      ((j i : ℕ) → (j ≡ t → ⊥) → i < 2 ^ m → marked m marks' j i ≡ marked m marks j i) →
      Passed t scores marks → Passed (t + 1) after marks'
  unfolding survivor
  passed_more t scores scores' after marks marks' both f a e p nexts news others d =
      let st = steps k s values in
      let col = column k scores in
      let sur = survivor st m forced t in
      record {
        scored = λ i b. ap (λ xs. get_or xs i k.start) a ∙ nexts i b
            ∙ ap (λ x. next_with x f scores i) e ∙ ap (λ x. next_with (step_values s values t) x scores i) p
            ∙ next_is t (forced t) scores i ∙ next_same st m t col sur d.scored (forced t) i b ∙ ap (λ n. survivor st m forced n i) (sym (add-one t));
        kept = λ j i l b. ⊎_elim
            (λ q. ap (λ n. marked m marks' n i) q ∙ news i b
            ∙ ap (λ x. mark_with x f scores i) e ∙ ap (λ x. mark_with (step_values s values t) x scores i) p
            ∙ mark_is t (forced t) scores i ∙ mark_same st m t col sur d.scored (forced t) i b ∙ ap (λ n. mark st m forced n i) (sym q))
            (λ ne. others j i ne b ∙ d.kept j i (omega arith) b)
            (cases_eq j t);
      }
