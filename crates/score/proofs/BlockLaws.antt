-- A block that contradicts nothing scores the start, and any other block scores worse.
-- Assumes nothing.
use Rattle.std.proofs.Common.{◌≡◌, ℕ, zero, suc, ◌+◌, ◌-◌, ◌*◌, ◌/◌, ◌%◌, ◌<◌, ◌≤◌, Bool, true, false, eqb, ◌⊎◌, List, [], ◌∷◌, length, get_or, ℤ, sym, refl, ap, ◌∙◌, inl, inr, ⊎_elim, add-zero, zero-add, arith}
use Rattle.std.proofs.lemmas.Bool.{eqb-true, eq-eqb, cond_both}
use Rattle.plan.specs.Scheme.{Scheme}
use Rattle.plan.proofs.Facts.{Facts}
use Rattle.code.specs.Coding.{coded, mother}
use Rattle.code.specs.Sending.{location}
use Rattle.code.proofs.Pairs.{mother_first, mother_second}
use Rattle.score.specs.Values.{contradicted}
use Rattle.score.specs.Scale.{Scale, Lawful, better}
use Rattle.score.specs.Blocks.{named_from, named, absorbed, step_values, step_score, score_after, block_score, contradicted_at, Agrees, Contradicts}
use Rattle.score.proofs.Laws.{same, absorbed_growing, absorbed_monotone, worse_on, worse_once, better_from}
use Rattle.code.proofs.Loading.{run_below, sent_below}
use Rattle.score.proofs.Sources.{source_is, Taken, taken}

half_cases : (h : ℕ) → h < 2 → (h ≡ 0) ⊎ (h ≡ 1)
half_cases zero b = inl refl
half_cases (suc zero) b = inr refl
half_cases (suc (suc h)) b = absurd (omega arith)

module _ {S : Type 0} (k : Scale S) (l : Lawful k) (s : Scheme) (values : ℕ → ℤ) where
  -- the value at place i of run j of the send list
  abbrev at : ℕ → ℕ → ℤ
  at j i = values (location s (j * length s.entries + i))

  -- agreed values of the places that name a bit leave a score as it is
  named_agreed : (j e i : ℕ) (xs : List ℕ) (bit : Bool) (a : S) → ((n : ℕ) → n < length xs → get_or xs n 0 ≡ e → contradicted (at j (i + n)) bit ≡ false) → absorbed k (named_from s values j e i xs) bit a ≡ a
  named_agreed j e i [] bit a h = refl
  named_agreed j e i (x ∷ xs) bit a h =
      let rest = λ (b : S). named_agreed j e (i + 1) xs bit b (λ n g q. let z : i + 1 + n ≡ i + suc n = omega arith in rw z (h (suc n) (omega arith) q)) in
      cond_both (eqb x e) _ _ (λ vs. absorbed k vs bit a ≡ a)
      (λ t. let c : contradicted (at j i) bit ≡ false = rw add-zero at (h 0 (omega arith) (eqb-true x e t)) in rest _ ∙ l.agreed a (at j i) bit c)
      (λ t. rest a)

  -- a contradicted value of a place that names a bit makes a score worse than the start
  named_worse : (j e i : ℕ) (xs : List ℕ) (bit : Bool) (a : S) (n : ℕ) → k.no_worse k.start a ≡ true → n < length xs → get_or xs n 0 ≡ e → contradicted (at j (i + n)) bit ≡ true → k.no_worse (absorbed k (named_from s values j e i xs) bit a) k.start ≡ false
  named_worse j e i [] bit a n w h q c = absurd (omega arith)
  named_worse j e i (x ∷ xs) bit a zero w h q c =
      let t : eqb x e ≡ true = eq-eqb x e q in
      let z : contradicted (at j i) bit ≡ true = rw add-zero at c in
      rw t (worse_on k l (k.extended a (at j i) bit) _ (worse_once k l a (at j i) bit w z) (absorbed_growing k l (named_from s values j e (i + 1) xs) bit _))
  named_worse j e i (x ∷ xs) bit a (suc n) w h q c =
      let z : i + suc n ≡ i + 1 + n = omega arith in
      let c2 : contradicted (at j (i + 1 + n)) bit ≡ true = rw z at c in
      cond_both (eqb x e) _ _ (λ vs. k.no_worse (absorbed k vs bit a) k.start ≡ false)
      (λ t. named_worse j e (i + 1) xs bit _ n (l.transitive _ a _ w (l.growing a (at j i) bit)) (omega arith) q c2)
      (λ t. named_worse j e (i + 1) xs bit a n w (omega arith) q c2)

  pub step_growing : (t : ℕ) (bits : Bool × Bool) (a : S) → k.no_worse a (step_score k s values t bits a) ≡ true
  unfolding step_score
  step_growing t bits a = l.transitive a _ _ (absorbed_growing k l (step_values s values t).0 bits.0 a) (absorbed_growing k l (step_values s values t).1 bits.1 _)

  pub step_monotone : (t : ℕ) (bits : Bool × Bool) (a b : S) → k.no_worse a b ≡ true → k.no_worse (step_score k s values t bits a) (step_score k s values t bits b) ≡ true
  unfolding step_score
  step_monotone t bits a b h = absorbed_monotone k l (step_values s values t).1 bits.1 _ _ (absorbed_monotone k l (step_values s values t).0 bits.0 a b h)

  pub start_no_worse : (u : ℕ → Bool) (t : ℕ) → k.no_worse k.start (score_after k s values u t) ≡ true
  start_no_worse u zero = same k l k.start
  start_no_worse u (suc t) = l.transitive _ _ _ (start_no_worse u t) (step_growing t (coded s u t) (score_after k s values u t))

  first_is : (u : ℕ → Bool) (t : ℕ) → mother s u (2 * t + 0) ≡ (coded s u t).0
  first_is u t = ap (mother s u) (add-zero (2 * t)) ∙ mother_first s u t

  module _ (f : Facts s) (u : ℕ → Bool) where
    -- a place of step t's run is a sent bit, and the block sends its mother bit there
    at_sent : (t i half : ℕ) (bit told : Bool) → i < length s.entries → get_or s.entries i 0 ≡ 2 * (t % s.period) + half → mother s u (2 * t + half) ≡ bit → contradicted_at s values u (t / s.period * length s.entries + i) ≡ told → contradicted (at (t / s.period) i) bit ≡ told
    unfolding contradicted_at
    at_sent t i half bit told g e m c = let src = source_is s f t i half g e in rw (src, m) at c

    step_agreed : (t : ℕ) (a : S) → Agrees s values u → t < s.block → step_score k s values t (coded s u t) a ≡ a
    unfolding step_score named
    step_agreed t a h b =
        let j = t / s.period in
        let sent = λ (i : ℕ) (g : i < length s.entries). h (j * length s.entries + i) (sent_below s f j i (run_below s f t b) g) in
        named_agreed j (2 * (t % s.period) + 1) 0 s.entries _ _ (λ n g e. rw zero-add (at_sent t n 1 _ _ g e (mother_second s u t) (sent n g)))
        ∙ named_agreed j (2 * (t % s.period)) 0 s.entries _ a (λ n g e. rw zero-add (at_sent t n 0 _ _ g (e ∙ sym (add-zero _)) (first_is u t) (sent n g)))

    after_agreed : (t : ℕ) → Agrees s values u → t ≤ s.block → score_after k s values u t ≡ k.start
    after_agreed zero h b = refl
    after_agreed (suc t) h b = step_agreed t _ h (omega arith) ∙ after_agreed t h (omega arith)

    step_worse : (n : ℕ) (w : Taken s n) (a : S) → k.no_worse k.start a ≡ true → contradicted_at s values u n ≡ true → k.no_worse (step_score k s values w.step (coded s u w.step) a) k.start ≡ false
    unfolding step_score named
    step_worse n w a h c =
        let t = w.step in
        let j = t / s.period in
        let c2 : contradicted_at s values u (j * length s.entries + w.place) ≡ true = rw w.sent_is c in
        let e = w.entry_is in
        ⊎_elim
        (λ z.
        let e2 : get_or s.entries w.place 0 ≡ 2 * (t % s.period) + 0 = omega arith in
        let x = at_sent t w.place 0 (coded s u t).0 true w.place_below e2 (first_is u t) c2 in
        worse_on k l (absorbed k (step_values s values t).0 (coded s u t).0 a) _
        (named_worse j (2 * (t % s.period)) 0 s.entries (coded s u t).0 a w.place h w.place_below (omega arith) (rw zero-add x))
        (absorbed_growing k l (step_values s values t).1 (coded s u t).1 _))
        (λ z.
        let e2 : get_or s.entries w.place 0 ≡ 2 * (t % s.period) + 1 = omega arith in
        let x = at_sent t w.place 1 (coded s u t).1 true w.place_below e2 (mother_second s u t) c2 in
        named_worse j (2 * (t % s.period) + 1) 0 s.entries (coded s u t).1 _ w.place
        (l.transitive _ a _ h (absorbed_growing k l (step_values s values t).0 (coded s u t).0 a)) w.place_below e2 (rw zero-add x))
        (half_cases w.half w.half_below)

    after_worse : (n : ℕ) (w : Taken s n) (d : ℕ) → contradicted_at s values u n ≡ true → k.no_worse (score_after k s values u (suc d + w.step)) k.start ≡ false
    after_worse n w zero c = let z : 1 + w.step ≡ suc w.step = omega arith in rw z (step_worse n w _ (start_no_worse u w.step) c)
    after_worse n w (suc d) c =
        let z : suc (suc d) + w.step ≡ suc (suc d + w.step) = omega arith in
        rw z (worse_on k l _ _ (after_worse n w d c) (step_growing (suc d + w.step) (coded s u (suc d + w.step)) _))

    -- a block that contradicts nothing scores the start
    pub block_agreed : Agrees s values u → block_score k s values u ≡ k.start
    unfolding block_score
    block_agreed h = after_agreed s.block h (omega arith)

    -- a block that contradicts something scores worse
    pub block_worse : Contradicts s values u → better k k.start (block_score k s values u) ≡ true
    unfolding block_score
    block_worse h =
        let w = taken s f h.0 h.1 in
        let b = w.step_below in
        let z : suc (s.block - 1 - w.step) + w.step ≡ s.block = omega arith in
        better_from k l _ (start_no_worse u s.block) (rw z at (after_worse h.0 w (s.block - 1 - w.step) h.2))
