-- What the laws of a kind of score say of many values.
-- Assumes nothing.
use Rattle.std.proofs.Common.{◌≡◌, Bool, true, false, List, [], ◌∷◌, ℤ, sym, ◌∙◌, ⊎_elim}
use Rattle.std.proofs.lemmas.Bool.{true≢false, and_parts, and_from, or_cases, cases_Bool, not-true, not_from_false}
use Rattle.score.specs.Values.{contradicted}
use Rattle.score.specs.Scale.{Scale, Lawful, better}
use Rattle.score.specs.Blocks.{absorbed}

module _ {S : Type 0} (k : Scale S) (l : Lawful k) where
  pub same : (a : S) → k.no_worse a a ≡ true
  same a = ⊎_elim (λ h. h) (λ h. h) (or_cases _ _ (l.total a a))

  pub absorbed_growing : (vs : List ℤ) (bit : Bool) (a : S) → k.no_worse a (absorbed k vs bit a) ≡ true
  absorbed_growing [] bit a = same a
  absorbed_growing (v ∷ vs) bit a = l.transitive a _ _ (l.growing a v bit) (absorbed_growing vs bit (k.extended a v bit))

  pub absorbed_monotone : (vs : List ℤ) (bit : Bool) (a b : S) → k.no_worse a b ≡ true → k.no_worse (absorbed k vs bit a) (absorbed k vs bit b) ≡ true
  absorbed_monotone [] bit a b h = h
  absorbed_monotone (v ∷ vs) bit a b h = absorbed_monotone vs bit _ _ (l.monotone a b v bit h)

  -- what is worse than the start stays so
  pub worse_on : (a b : S) → k.no_worse a k.start ≡ false → k.no_worse a b ≡ true → k.no_worse b k.start ≡ false
  worse_on a b f h =
      ⊎_elim (λ t. absurd (true≢false (sym (l.transitive a b k.start h t) ∙ f))) (λ t. t) (cases_Bool (k.no_worse b k.start))

  -- a contradicted value makes every score worse than the start
  pub worse_once : (a : S) (v : ℤ) (bit : Bool) → k.no_worse k.start a ≡ true → contradicted v bit ≡ true → k.no_worse (k.extended a v bit) k.start ≡ false
  worse_once a v bit h c =
      worse_on (k.extended k.start v bit) (k.extended a v bit) (not-true _ (and_parts _ _ (l.contradicted v bit c)).1)
      (l.monotone k.start a v bit h)

  pub better_from : (a : S) → k.no_worse k.start a ≡ true → k.no_worse a k.start ≡ false → better k k.start a ≡ true
  better_from a h f = and_from _ _ h (not_from_false _ f)
