-- One turn of each loop over values and over steps, and its end.
-- Assumes nothing.
use Rattle.std.proofs.Common.{◌≡◌, ℕ, ◌+◌, ◌<◌, ◌≤◌, Bool, true, List, [], length, get_or, drop, ℤ, pos, sym, ap, ◌∙◌, subst, add-one, w16, SFits, to_z, of_z}
use Rattle.std.proofs.lemmas.List.{at_drop_more, at_drop_all}
use Rattle.std.proofs.lemmas.Int.{to_z-of_z}
use Rattle.std.proofs.lemmas.Bool.{lt-ltb, cond-true}
use Rattle.plan.specs.Scheme.{Scheme}
use Rattle.plan.proofs.Facts.{Facts}
use Rattle.code.specs.Coding.{coded}
use Rattle.score.specs.Scale.{Scale, Lawful, better}
use Rattle.score.specs.Blocks.{absorbed, absorbed_both, step_values, step_score, score_after, block_score, Agrees, Contradicts}
use Rattle.score.specs.Gathered.{step_values_within}
use Rattle.score.specs.Sums.{TakesEachOnce}
use Rattle.score.proofs.BlockLaws.{block_agreed, block_worse}
use Rattle.score.proofs.Covered.{takes_each_once}

module _ {S : Type 0} (k : Scale S) where
  -- one value more is absorbed; it passes through its sixteen bits
  pub absorbed_more : (xs : List ℤ) (i : ℕ) (bit : Bool) (a next whole : S) → i < length xs → SFits w16 (get_or xs i (pos 0)) → next ≡ k.extended a (to_z w16 (of_z w16 (get_or xs i (pos 0)))) bit → absorbed k (drop i xs) bit a ≡ whole → absorbed k (drop (i + 1) xs) bit next ≡ whole
  absorbed_more xs i bit a next whole h fits e inv =
      ap (absorbed k (drop (i + 1) xs) bit) (e ∙ ap (λ v. k.extended a v bit) (to_z-of_z w16 (get_or xs i (pos 0)) fits))
      ∙ sym (at_drop_more (λ vs. absorbed k vs bit a) xs i (pos 0) h) ∙ inv

  pub absorbed_all : (xs : List ℤ) (i : ℕ) (bit : Bool) (a whole : S) → length xs ≤ i → absorbed k (drop i xs) bit a ≡ whole → a ≡ whole
  absorbed_all xs i bit a whole h inv = sym (at_drop_all (λ vs. absorbed k vs bit a) xs i h) ∙ inv

  module _ (s : Scheme) (values : ℕ → ℤ) where
    -- a step's values and its pair give the step's score
    pub step_is : (t : ℕ) (both : List ℤ × List ℤ) (pair bits : Bool × Bool) (a r : S) → t < s.block → both ≡ step_values_within s values t → pair ≡ bits → r ≡ absorbed_both k both pair a → r ≡ step_score k s values t bits a
    unfolding step_score
    step_is t both pair bits a r h e p q =
        let within : step_values_within s values t ≡ step_values s values t = cond-true _ (step_values s values t) ([], []) (lt-ltb t s.block h) in
        q ∙ ap (λ b. absorbed_both k b pair a) (e ∙ within) ∙ ap (λ b. absorbed_both k (step_values s values t) b a) p

    pub after_more : (u : ℕ → Bool) (t : ℕ) (a next : S) → a ≡ score_after k s values u t → next ≡ step_score k s values t (coded s u t) a → next ≡ score_after k s values u (t + 1)
    after_more u t a next inv e = e ∙ ap (step_score k s values t (coded s u t)) inv ∙ ap (score_after k s values u) (sym (add-one t))

    pub after_all : (u : ℕ → Bool) (t : ℕ) (a : S) → t ≡ s.block → a ≡ score_after k s values u t → a ≡ block_score k s values u
    unfolding block_score
    after_all u t a e inv = inv ∙ ap (score_after k s values u) e

    -- the laws, of a score that is the block's
    module _ (l : Lawful k) (f : Facts s) (u : ℕ → Bool) (x : S) (is : x ≡ block_score k s values u) where
      pub takes_each : TakesEachOnce k s values u x
      takes_each = subst (TakesEachOnce k s values u) (sym is) (takes_each_once s values u k f)

      pub agreed_is : Agrees s values u → x ≡ k.start
      agreed_is h = is ∙ block_agreed k l s values f u h

      pub contradicted_is : Contradicts s values u → better k k.start x ≡ true
      contradicted_is h = subst (λ y. better k k.start y ≡ true) (sym is) (block_worse k l s values f u h)
