-- The choice of the start number, and that the block picked is best.
-- Assumes nothing.
use Rattle.std.proofs.Common.{◌≡◌, ℕ, zero, suc, ◌+◌, ◌-◌, ◌^◌, ◌<◌, ◌≤◌, Bool, true, false, cond, ltb, ◌⊎◌, Some, None, sym, refl, ap, ◌∙◌, subst, inl, inr, ⊎_elim, mod-eq_of_lt, add-one, arith}
use Rattle.std.proofs.lemmas.Bool.{cases_eq, cases_Bool, cases_lt, cond-true, cond-false, cond_both, both_ways, lt-ltb, le-ltb}
use Rattle.std.proofs.lemmas.Nat.{pow_pos}
use Rattle.code.specs.Numbers.{num, bit_of}
use Rattle.code.proofs.Blocks.{num_below, num_same}
use Rattle.code.proofs.Windows.{bit_num}
use Rattle.trellis.specs.Steps.{Steps, Ordered, around, path_score, block_score}
use Rattle.trellis.specs.Survivors.{prefix, survivor}
use Rattle.trellis.specs.Choice.{final, traced, winner}
use Rattle.trellis.specs.Best.{PickedIsBest}
use Rattle.trellis.proofs.Bits.{num_bits, num_around}
use Rattle.trellis.proofs.Survival.{Lets, reflexive, other_way, survivor_no_worse, traced_score, traced_forced}

-- what is forced at a bit, and past the forced ones
pub prefix_holds : (m held x i : ℕ) → i < held → prefix m held x i ≡ Some (bit_of m x i)
prefix_holds m held x i l = cond-true (ltb i held) _ _ (lt-ltb i held l)

pub prefix_ends : (m held x i : ℕ) → held ≤ i → prefix m held x i ≡ None
prefix_ends m held x i l = cond-false (ltb i held) _ _ (le-ltb i held l)

-- a path whose start has the forced bits is let
pub prefix_lets : (m held x : ℕ) (w : ℕ → Bool) → ((i : ℕ) → i < held → w i ≡ bit_of m x i) → (i : ℕ) → Lets (prefix m held x i) (w i)
prefix_lets m held x w same i =
    ⊎_elim (λ l. subst (λ f. Lets f (w i)) (sym (prefix_holds m held x i l)) (same i l))
    (λ l. subst (λ f. Lets f (w i)) (sym (prefix_ends m held x i l)) tt) (cases_lt i held)

module _ {S : Type 0} (steps : Steps S) (m size : ℕ) where
  -- below the size, a block round and round is the block
  pub around_below : (u : ℕ → Bool) (i : ℕ) → i < size → around size u i ≡ u i
  around_below u i l = ap u (mod-eq_of_lt l)

  -- a start number comes round to itself
  pub comes_round : (x : ℕ) → m ≤ size → x < 2 ^ m → num (around size (traced steps m size x)) m size ≡ x
  comes_round x h l =
      let u = traced steps m size x in
      num_around u m size
      ∙ num_same (around size u) (bit_of m x) m 0 0 (λ i b. around_below u (0 + i) (omega arith)
      ∙ traced_forced steps m (prefix m m x) size x (0 + i) (bit_of m x (0 + i)) (omega arith) (prefix_holds m m x (0 + i) (omega arith)))
      ∙ num_bits m x l

  -- the score that survives from a start number is that of the block that survives
  pub final_score : (x : ℕ) → m ≤ size → x < 2 ^ m → final steps m size x ≡ block_score steps m size (traced steps m size x)
  final_score x h l =
      traced_score steps m (prefix m m x) (around size (traced steps m size x)) size x (comes_round x h l)
      (λ i b. around_below (traced steps m size x) i b)

  -- one number more
  pub winner_more : (n : ℕ) → winner steps m size (n + 1) ≡ cond (steps.no_worse (final steps m size (winner steps m size n)) (final steps m size n)) (winner steps m size n) n
  unfolding winner
  winner_more n = ap (winner steps m size) (add-one n)

  pub winner_one : winner steps m size 1 ≡ 0
  unfolding winner
  winner_one = cond_both (steps.no_worse (final steps m size 0) (final steps m size 0)) 0 0 (λ x. x ≡ 0) (λ _. refl) (λ _. refl)

module _ {S : Type 0} (steps : Steps S) (o : Ordered steps) (m size : ℕ) where
  -- what survives from a block's own start number is no worse than the block
  pub final_no_worse : (v : ℕ → Bool) → steps.no_worse (final steps m size (num (around size v) m 0)) (block_score steps m size v) ≡ true
  final_no_worse v =
      let w = around size v in
      let x = num w m 0 in
      subst (λ s. steps.no_worse (survivor steps m (prefix m m x) size s) (path_score steps m w size) ≡ true) (num_around v m size)
      (survivor_no_worse steps o m (prefix m m x) w size
      (λ i _. prefix_lets m m x w (λ j l. sym (bit_num w m 0 j l ∙ ap w (omega arith))) i))

  -- score a of number i comes before score b of number j: it is no worse, and of equals the smaller number
  abbrev pub Ahead : S → ℕ → S → ℕ → Type 0
  Ahead a i b j = (steps.no_worse a b ≡ true) × ((i ≤ j) ⊎ (steps.no_worse b a ≡ false))

  -- the leader of the start numbers below n, with a score that its own is no worse than
  pub record Leads (n lead : ℕ) (score : S) : Type 0 where
    pub low : lead < n
    pub own : steps.no_worse (final steps m size lead) score ≡ true
    pub ahead : (x : ℕ) → x < n → Ahead score lead (final steps m size x) x

  pub leads_first : Leads 1 0 (final steps m size 0)
  leads_first = record {
    low = omega arith;
    own = reflexive steps o _;
    ahead = λ x l. let z : 0 ≡ x = omega arith in
        subst (λ y. Ahead (final steps m size 0) 0 (final steps m size y) y) z (reflexive steps o _, inl (omega arith));
  }

  -- the leader stays where it is no worse than the next number
  pub leads_stays : (n lead : ℕ) (score : S) → Leads n lead score → steps.no_worse score (final steps m size n) ≡ true → Leads (suc n) lead score
  leads_stays n lead score h e = record {
    low = let l = h.low in omega arith;
    own = h.own;
    ahead = λ x l. ⊎_elim
        (λ same. subst (λ y. Ahead score lead (final steps m size y) y) (sym same) (e, inl (let k = h.low in omega arith)))
        (λ ne. h.ahead x (omega arith)) (cases_eq x n);
  }

  -- and is passed by the next number where it is not
  pub leads_passes : (n lead : ℕ) (score : S) → Leads n lead score → steps.no_worse score (final steps m size n) ≡ false → Leads (suc n) n (final steps m size n)
  leads_passes n lead score h e = record {
    low = omega arith;
    own = reflexive steps o _;
    ahead = λ x l. ⊎_elim
        (λ same. subst (λ y. Ahead (final steps m size n) n (final steps m size y) y) (sym same) (reflexive steps o _, inl (omega arith)))
        (λ ne.
        let f = h.ahead x (omega arith) in
        (o.transitive _ _ _ (other_way steps o _ _ e) f.0, inr (worse x f.0))) (cases_eq x n);
  }
    where
      worse : (x : ℕ) → steps.no_worse score (final steps m size x) ≡ true → steps.no_worse (final steps m size x) (final steps m size n) ≡ false
      worse x f = ⊎_elim (λ t. absurd (both_ways _ e (o.transitive _ _ _ f t))) (λ t. t) (cases_Bool (steps.no_worse (final steps m size x) (final steps m size n)))

  -- the winner leads
  pub winner_leads : (n : ℕ) → Leads (suc n) (winner steps m size (suc n)) (final steps m size (winner steps m size (suc n)))
  unfolding winner
  winner_leads zero = cond_both (steps.no_worse (final steps m size 0) (final steps m size 0)) 0 0 (λ x. Leads 1 x (final steps m size x)) (λ _. leads_first) (λ _. leads_first)
  winner_leads (suc n) =
      let lead = winner steps m size (suc n) in
      let ih = winner_leads n in
      cond_both (steps.no_worse (final steps m size lead) (final steps m size (suc n))) lead (suc n) (λ x. Leads (suc (suc n)) x (final steps m size x))
      (leads_stays (suc n) lead (final steps m size lead) ih) (leads_passes (suc n) lead (final steps m size lead) ih)

  -- whoever leads is the winner
  pub winner_is : (n lead : ℕ) (score : S) → Leads (suc n) lead score → lead ≡ winner steps m size (suc n)
  winner_is n lead score h =
      let k = winner steps m size (suc n) in
      let w = winner_leads n in
      let a = h.ahead k w.low in
      let b = w.ahead lead h.low in
      let below = ⊎_elim (λ l. l) (λ f. absurd (both_ways _ f (o.transitive _ _ _ b.0 h.own))) a.1 in
      let above = ⊎_elim (λ l. l) (λ f. absurd (both_ways _ f (o.transitive _ _ _ h.own a.0))) b.1 in
      omega arith

-- the block that the tie rule picks is best
pub picked_is_best : {S : Type 0} → PickedIsBest S
picked_is_best steps o m size h =
    let n = 2 ^ m - 1 in
    let e : suc n ≡ 2 ^ m = omega (arith, pow_pos m) in
    let w = subst (λ k. Leads steps o m size k (winner steps m size k) (final steps m size (winner steps m size k))) e (winner_leads steps o m size n) in
    record {
      picks = λ i l. refl;
      scores = final_score steps m size (winner steps m size (2 ^ m)) (omega arith) w.low;
      beats = λ v. o.transitive _ _ _ (w.ahead (num (around size v) m 0) (num_below (around size v) m 0)).0 (final_no_worse steps o m size v);
    }
