-- Count-first keeps the laws.
-- Assumes nothing.
use Rattle.std.specs.Prelude.{◌≡◌, ℕ, ◌≤◌, true, false, cond, ◌||◌, refl}
use Rattle.std.proofs.Common.{arith}
use Rattle.std.proofs.lemmas.Bool.{false≢true, cond_both}
use Rattle.std.proofs.lemmas.Bool.Decides.{nat_tests}
use Rattle.score.specs.Values.{contradicted, weight}
use Rattle.score.specs.Scale.{Lawful}
use Rattle.score.specs.Kinds.{added, counted, tally_no_worse, count_scale}
use Rattle.score.specs.declared.tally.Tally.{Tally}
use Rattle.score.specs.declared.tally.Tally.TheVariants.{Counted, Full}

tally_total : (a b : Tally) → (tally_no_worse a b || tally_no_worse b a) ≡ true
tally_total (Counted c t) (Counted d u) = grind (arith, nat_tests)
tally_total (Counted c t) Full = refl
tally_total Full (Counted d u) = refl
tally_total Full Full = refl

tally_transitive : (a b c : Tally) → tally_no_worse a b ≡ true → tally_no_worse b c ≡ true → tally_no_worse a c ≡ true
tally_transitive (Counted c t) (Counted d u) (Counted e v) h k = grind (arith, nat_tests)
tally_transitive (Counted c t) (Counted d u) Full h k = refl
tally_transitive (Counted c t) Full (Counted e v) h k = absurd (false≢true k)
tally_transitive (Counted c t) Full Full h k = refl
tally_transitive Full (Counted d u) (Counted e v) h k = absurd (false≢true h)
tally_transitive Full (Counted d u) Full h k = refl
tally_transitive Full Full (Counted e v) h k = absurd (false≢true k)
tally_transitive Full Full Full h k = refl

tally_same : (a : Tally) → tally_no_worse a a ≡ true
tally_same (Counted c t) = grind (arith, nat_tests)
tally_same Full = refl

no_worse_than_full : (a : Tally) → tally_no_worse a Full ≡ true
no_worse_than_full (Counted c t) = refl
no_worse_than_full Full = refl

added_monotone : (t u w : ℕ) → t ≤ u → added t w ≤ added u w
added_monotone t u w h = omega arith

counted_monotone : (a b : Tally) (w : ℕ) → tally_no_worse a b ≡ true → tally_no_worse (counted a w) (counted b w) ≡ true
counted_monotone (Counted c t) (Counted d u) w h =
    let more : (t ≤ u → added t w ≤ added u w) = added_monotone t u w in
    grind (arith, nat_tests)
counted_monotone (Counted c t) Full w h = no_worse_than_full (counted (Counted c t) w)
counted_monotone Full (Counted d u) w h = absurd (false≢true h)
counted_monotone Full Full w h = refl

counted_growing : (a : Tally) (w : ℕ) → tally_no_worse a (counted a w) ≡ true
counted_growing (Counted c t) w = grind (arith, nat_tests)
counted_growing Full w = refl

pub count_lawful : Lawful count_scale
count_lawful = record {
  total = tally_total;
  transitive = tally_transitive;
  monotone = λ a b value bit h. elim (contradicted value bit) as (λ x. tally_no_worse (cond x (counted a (weight value bit)) a) (cond x (counted b (weight value bit)) b) ≡ true)
      [ true ↦ counted_monotone a b (weight value bit) h | false ↦ h ];
  growing = λ a value bit. cond_both (contradicted value bit) _ _ (λ x. tally_no_worse a x ≡ true) (λ _. counted_growing a (weight value bit)) (λ _. tally_same a);
  agreed = λ a value bit h. rw h;
  contradicted = λ value bit h. rw h;
}
