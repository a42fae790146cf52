-- What a pass tells of the final scores, and how a choice among the start numbers ends.
-- Assumes nothing.
use Rattle.std.proofs.Common.{◌≡◌, ℕ, zero, suc, ◌+◌, ◌-◌, ◌/◌, ◌%◌, ◌^◌, ◌<◌, ◌≤◌, Bool, true, false, cond, eqb, leb, ltb, Option, not, ◌&&◌, ◌||◌, ◌⊎◌, sym, refl, ap, ◌∙◌, subst, inl, inr, ⊎_elim, arith}
use Rattle.std.proofs.lemmas.Bool.{cases_Bool, cases_lt, cond-true, cond-false, both_ways, lt-ltb, le-ltb, eqb-true, and_parts, and_from, leb-true, le-leb, or_cases, or_left, or_right, not-true, not_from_false}
use Rattle.std.proofs.lemmas.Nat.{pow_pos, shr-shr}
use Rattle.code.specs.Numbers.{num, bit_of}
use Rattle.code.proofs.Blocks.{num_same}
use Rattle.trellis.specs.Steps.{Steps, Ordered, around, path_score, block_score}
use Rattle.trellis.specs.Survivors.{before, prefix, survivor, mark}
use Rattle.trellis.specs.Choice.{back, origin, final, traced, winner}
use Rattle.trellis.specs.Bounds.{shares, ahead, Leads}
use Rattle.trellis.proofs.Bits.{num_bits, num_before, num_around}
use Rattle.trellis.proofs.Survival.{reflexive, other_way, back_last, back_more, survivor_no_worse, traced_score, traced_forced}
use Rattle.trellis.proofs.Start.{prefix_holds, prefix_lets, around_below, comes_round, final_score, final_no_worse, Leads as Leading, winner_is}

-- a path that agrees with a trace starts where the trace does
origin_num : (m : ℕ) (marks : ℕ → ℕ → Bool) (w : ℕ → Bool) (t s : ℕ) → num w m t ≡ s → ((i : ℕ) → i < t → w i ≡ back m marks t s i) → num w m 0 ≡ origin m marks t s
unfolding origin
origin_num m marks w zero s e agrees = e
origin_num m marks w (suc t) s e agrees =
    let b = marks t s in
    let last : w t ≡ b = agrees t (omega arith) ∙ back_last m marks t s in
    let comes : num w m t ≡ before m b s = sym (num_before w m t) ∙ ap (λ x. before m (w t) x) e ∙ ap (λ x. before m x s) last in
    origin_num m marks w t (before m b s) comes (λ i l. agrees i (omega arith) ∙ back_more m marks t s i l)

-- the bits of a block, and then those of a number
followed : ℕ → ℕ → (ℕ → Bool) → ℕ → ℕ → Bool
followed m size u x i = cond (ltb i size) (u i) (bit_of m x (i - size))

module _ (m size : ℕ) (u : ℕ → Bool) (x : ℕ) where
  followed_below : (i : ℕ) → i < size → followed m size u x i ≡ u i
  unfolding followed
  followed_below i l = cond-true (ltb i size) _ _ (lt-ltb i size l)

  followed_after : (i : ℕ) → followed m size u x (size + i) ≡ bit_of m x i
  unfolding followed
  followed_after i = cond-false (ltb (size + i) size) _ _ (le-ltb (size + i) size (omega arith))
      ∙ ap (bit_of m x) (omega arith)

-- numbers that share their first bits have the same first bits
shared_bit : (m held x y i : ℕ) → held ≤ m → shares m held x y ≡ true → i < held → bit_of m x i ≡ bit_of m y i
shared_bit m held x y i h e l =
    let a = m - held in
    let b = held - 1 - i in
    let p : m - 1 - i ≡ a + b = omega arith in
    ap (λ k. eqb (x / 2 ^ k % 2) 1) p ∙ ap (λ n. eqb (n % 2) 1) (sym (shr-shr x a b))
    ∙ ap (λ n. eqb (n / 2 ^ b % 2) 1) (eqb-true (x / 2 ^ a) (y / 2 ^ a) e)
    ∙ ap (λ n. eqb (n % 2) 1) (shr-shr y a b) ∙ ap (λ k. eqb (y / 2 ^ k % 2) 1) (sym p)

module _ {S : Type 0} (steps : Steps S) (o : Ordered steps) (m size : ℕ) (small : m ≤ size) where
  -- the survivor of a pass that starts with some bits is no worse than the final score of a number with these bits
  pub survivor_bounds : (held x y : ℕ) → held ≤ m → y < 2 ^ m → shares m held x y ≡ true →
      steps.no_worse (survivor steps m (prefix m held x) size y) (final steps m size y) ≡ true
  survivor_bounds held x y h l e =
      let u = traced steps m size y in
      let w = around size u in
      let bit : (j : ℕ) → j < held → w j ≡ bit_of m x j =
      λ j k. around_below steps m size u j (omega arith) ∙ traced_forced steps m (prefix m m y) size y j (bit_of m y j) (omega arith) (prefix_holds m m y j (omega arith))
      ∙ sym (shared_bit m held x y j h e k) in
      subst (λ s. steps.no_worse (survivor steps m (prefix m held x) size y) s ≡ true) (sym (final_score steps m size y small l))
      (subst (λ s. steps.no_worse (survivor steps m (prefix m held x) size s) (path_score steps m w size) ≡ true) (comes_round steps m size y small l)
      (survivor_no_worse steps o m (prefix m held x) w size (λ i _. prefix_lets m held x w bit i)))

  -- where a path that survives comes round to its end, the end's final score is no worse than the survivor's
  pub closed_bounds : (forced : ℕ → Option Bool) (x : ℕ) → x < 2 ^ m → origin m (mark steps m forced) size x ≡ x →
      steps.no_worse (final steps m size x) (survivor steps m forced size x) ≡ true
  closed_bounds forced x l closed =
      let marks = mark steps m forced in
      let u = back m marks size x in
      let w = around size u in
      let v = followed m size u x in
      let reach : num v m size ≡ x = num_same v (bit_of m x) m size 0 (λ i _. followed_after m size u x i ∙ ap (bit_of m x) (omega arith)) ∙ num_bits m x l in
      let starts : num w m 0 ≡ x =
      num_same w v m 0 0 (λ i b. around_below steps m size u (0 + i) (omega arith) ∙ sym (followed_below m size u x (0 + i) (omega arith)))
      ∙ origin_num m marks v size x reach (followed_below m size u x) ∙ closed in
      let score : survivor steps m forced size x ≡ path_score steps m w size =
      traced_score steps m forced w size x (num_around u m size ∙ starts) (λ i b. around_below steps m size u i b) in
      subst (λ s. steps.no_worse (final steps m size x) s ≡ true) (sym score)
      (subst (λ y. steps.no_worse (final steps m size y) (path_score steps m w size) ≡ true) starts (final_no_worse steps o m size u))

module _ {S : Type 0} (steps : Steps S) (o : Ordered steps) where
  abbrev before_it : S → ℕ → S → ℕ → Bool
  before_it = ahead steps.no_worse

  -- what comes before is no worse, and where it is no better its number is no greater
  says : (a b : S) (i j : ℕ) → before_it a i b j ≡ true → (steps.no_worse a b ≡ true) × ((i ≤ j) ⊎ (steps.no_worse b a ≡ false))
  says a b i j e =
      let p = and_parts (steps.no_worse a b) _ e in
      (p.0, ⊎_elim (λ l. inl (leb-true i j l)) (λ n. inr (not-true _ n)) (or_cases _ _ p.1))

  -- and the other way round
  holds : (a b : S) (i j : ℕ) → steps.no_worse a b ≡ true → (i ≤ j) ⊎ (steps.no_worse b a ≡ false) → before_it a i b j ≡ true
  holds a b i j e h = and_from _ _ e (⊎_elim (λ l. or_left _ _ (le-leb i j l)) (λ n. or_right (leb i j) _ (not_from_false (steps.no_worse b a) n)) h)

  -- a number comes before itself
  pub ahead_itself : (a : S) (i : ℕ) → before_it a i a i ≡ true
  ahead_itself a i = holds a a i i (reflexive steps o a) (inl (omega arith))

  -- of two numbers one comes before the other
  pub ahead_other : (a b : S) (i j : ℕ) → before_it a i b j ≡ false → before_it b j a i ≡ true
  ahead_other a b i j e =
      ⊎_elim
      (λ yes. ⊎_elim
      (λ l. absurd (both_ways _ e (holds a b i j yes (inl (omega arith)))))
      (λ l. ⊎_elim (λ back. holds b a j i back (inl (omega arith))) (λ no. absurd (both_ways _ e (holds a b i j yes (inr no)))) (cases_Bool (steps.no_worse b a)))
      (cases_lt i j))
      (λ no. holds b a j i (other_way steps o a b no) (inr no))
      (cases_Bool (steps.no_worse a b))

  pub ahead_trans : (a b c : S) (i j k : ℕ) → before_it a i b j ≡ true → before_it b j c k ≡ true → before_it a i c k ≡ true
  ahead_trans a b c i j k p q =
      let x = says a b i j p in
      let y = says b c j k q in
      holds a c i k (o.transitive _ _ _ x.0 y.0) (⊎_elim
      (λ back.
      let l = ⊎_elim (λ l. l) (λ no. absurd (both_ways _ no (o.transitive _ _ _ y.0 back))) x.1 in
      let m = ⊎_elim (λ m. m) (λ no. absurd (both_ways _ no (o.transitive _ _ _ back x.0))) y.1 in
      inl (omega arith))
      inr (cases_Bool (steps.no_worse c a)))

  -- what comes before a score comes before each that is no better
  pub ahead_of_worse : (a b c : S) (i j : ℕ) → before_it a i b j ≡ true → steps.no_worse b c ≡ true → before_it a i c j ≡ true
  ahead_of_worse a b c i j p q =
      let x = says a b i j p in
      holds a c i j (o.transitive _ _ _ x.0 q)
      (⊎_elim inl (λ no. inr (⊎_elim (λ yes. absurd (both_ways _ no (o.transitive _ _ _ q yes))) (λ f. f) (cases_Bool (steps.no_worse c a)))) x.1)

  -- where the leader comes before every number, it wins
  pub leader_wins : (m size lead : ℕ) (score : S) (left : ℕ → Bool) → Leads steps m size lead score left →
      ((x : ℕ) → x < 2 ^ m → before_it score lead (final steps m size x) x ≡ true) → lead ≡ winner steps m size (2 ^ m)
  leader_wins m size lead score left h first =
      let n = 2 ^ m - 1 in
      let e : suc n ≡ 2 ^ m = omega (arith, pow_pos m) in
      let leads : Leading steps o m size (2 ^ m) lead score = record { low = h.low; own = h.own; ahead = λ x l. says score (final steps m size x) lead x (first x l) } in
      winner_is steps o m size n lead score (subst (λ k. Leading steps o m size k lead score) (sym e) leads) ∙ ap (winner steps m size) e
