-- The survivor into a state is no worse than any path that the forced bits let, and its trace has its score.
-- Assumes nothing.
use Rattle.std.proofs.Common.{◌≡◌, ℕ, zero, suc, ◌<◌, Bool, true, false, not, eqb, Some, None, Option, unwrap_or, sym, refl, ap, ◌∙◌, subst, ⊎_elim, arith}
use Rattle.std.proofs.lemmas.Bool.{or_cases, cases_eq, cases_Bool, eq-eqb, ne_eqb, cond-true, cond-false}
use Rattle.code.specs.Numbers.{num}
use Rattle.trellis.specs.Steps.{Steps, Ordered, path_score}
use Rattle.trellis.specs.Survivors.{window, before, way, survivor, mark}
use Rattle.trellis.specs.Choice.{back}
use Rattle.code.proofs.Blocks.{num_high}
use Rattle.trellis.proofs.Bits.{num_before}

-- a bit that a forced one lets
abbrev pub Lets : Option Bool → Bool → Type 0
Lets None b = Unit {0}
Lets (Some f) b = b ≡ f

-- the bit traced back first, and those before it
pub back_last : (m : ℕ) (marks : ℕ → ℕ → Bool) (t s : ℕ) → back m marks (suc t) s t ≡ marks t s
unfolding back
back_last m marks t s = cond-true (eqb t t) _ _ (eq-eqb t t refl)

pub back_more : (m : ℕ) (marks : ℕ → ℕ → Bool) (t s i : ℕ) → i < t → back m marks (suc t) s i ≡ back m marks t (before m (marks t s) s) i
unfolding back
back_more m marks t s i l = cond-false (eqb i t) _ _ (ne_eqb i t (λ e. omega arith))

-- the way that a path takes
pub way_along : {S : Type 0} (steps : Steps S) (m : ℕ) (column : ℕ → S) (w : ℕ → Bool) (t : ℕ) →
    way steps m t column (num w m (suc t)) (w t) ≡ steps.take t (num w (suc m) t) (column (num w m t))
way_along steps m column w t =
    ap (λ x. steps.take t (window m (w t) (num w m (suc t))) (column x)) (num_before w m t)
    ∙ ap (λ x. steps.take t x (column (num w m t))) (sym (num_high w m t))

module _ {S : Type 0} (steps : Steps S) (o : Ordered steps) where
  pub reflexive : (a : S) → steps.no_worse a a ≡ true
  reflexive a = ⊎_elim (λ e. e) (λ e. e) (or_cases _ _ (o.total a a))

  -- where a is not no worse than b, b is no worse
  pub other_way : (a b : S) → steps.no_worse a b ≡ false → steps.no_worse b a ≡ true
  other_way a b e = rw e at (o.total a b)

  -- the way that is chosen is no worse than any way that is let
  chosen_no_worse : (forced : Option Bool) (to : Bool → S) (b : Bool) → Lets forced b →
      steps.no_worse (to (unwrap_or forced (not (steps.no_worse (to false) (to true))))) (to b) ≡ true
  chosen_no_worse (Some f) to b h = subst (λ f. steps.no_worse (to f) (to b) ≡ true) h (reflexive (to b))
  chosen_no_worse None to true h =
      ⊎_elim (λ e. rw e e) (λ e. rw e (reflexive (to true))) (cases_Bool (steps.no_worse (to false) (to true)))
  chosen_no_worse None to false h =
      ⊎_elim (λ e. rw e (reflexive (to false))) (λ e. rw e (other_way (to false) (to true) e)) (cases_Bool (steps.no_worse (to false) (to true)))

  -- the survivor into the state that a path reaches is no worse than the path
  pub survivor_no_worse : (m : ℕ) (forced : ℕ → Option Bool) (w : ℕ → Bool) (t : ℕ) → ((i : ℕ) → i < t → Lets (forced i) (w i)) →
      steps.no_worse (survivor steps m forced t (num w m t)) (path_score steps m w t) ≡ true
  unfolding survivor
  survivor_no_worse m forced w zero lets = reflexive steps.from
  survivor_no_worse m forced w (suc t) lets =
      let s = num w m (suc t) in
      let ih = survivor_no_worse m forced w t (λ i l. lets i (omega arith)) in
      let to = way steps m t (survivor steps m forced t) s in
      let step : steps.no_worse (to (w t)) (path_score steps m w (suc t)) ≡ true =
      subst (λ x. steps.no_worse x (path_score steps m w (suc t)) ≡ true) (sym (way_along steps m (survivor steps m forced t) w t))
      (o.monotone t (num w (suc m) t) (survivor steps m forced t (num w m t)) (path_score steps m w t) ih) in
      o.transitive _ _ _ (chosen_no_worse (forced t) to (w t) (lets t (omega arith))) step

module _ {S : Type 0} (steps : Steps S) (m : ℕ) (forced : ℕ → Option Bool) where
  -- the score of a path that agrees with the trace from the state that it reaches
  pub traced_score : (w : ℕ → Bool) (t s : ℕ) → num w m t ≡ s → ((i : ℕ) → i < t → w i ≡ back m (mark steps m forced) t s i) →
      survivor steps m forced t s ≡ path_score steps m w t
  unfolding survivor
  traced_score w zero s e agrees = refl
  traced_score w (suc t) s e agrees =
      let marks = mark steps m forced in
      let column = survivor steps m forced t in
      let b = marks t s in
      let last : w t ≡ b = agrees t (omega arith) ∙ back_last m marks t s in
      let comes : num w m t ≡ before m b s = sym (num_before w m t) ∙ ap (λ x. before m (w t) x) e ∙ ap (λ x. before m x s) last in
      let ih : column (before m b s) ≡ path_score steps m w t =
      traced_score w t (before m b s) comes (λ i l. agrees i (omega arith) ∙ back_more m marks t s i l) in
      ap (λ x. way steps m t column s x) (sym last) ∙ ap (λ x. way steps m t column x (w t)) (sym e) ∙ way_along steps m column w t
      ∙ ap (λ x. steps.take t (num w (suc m) t) (column x)) comes ∙ ap (steps.take t (num w (suc m) t)) ih

  -- a trace obeys the forced bits
  pub traced_forced : (t s i : ℕ) (b : Bool) → i < t → forced i ≡ Some b → back m (mark steps m forced) t s i ≡ b
  traced_forced zero s i b l e = absurd (omega arith)
  traced_forced (suc t) s i b l e =
      let marks = mark steps m forced in
      let to : ℕ → Bool → S = λ t. way steps m t (survivor steps m forced t) s in
      ⊎_elim
      (λ same. ap (back m marks (suc t) s) same ∙ back_last m marks t s ∙ ap (λ f. unwrap_or f (not (steps.no_worse (to t false) (to t true)))) (ap forced (sym same) ∙ e))
      (λ ne. let h : i < t = omega arith in back_more m marks t s i h ∙ traced_forced t (before m (marks t s) s) i b h e)
      (cases_eq i t)
