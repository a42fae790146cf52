-- A look that is lent the first part of a block's memory, and of the values.
-- Assumes nothing.
use Rattle.std.proofs.Common.{◌≡◌, ℕ, zero, suc, ◌+◌, ◌*◌, ◌/◌, ◌%◌, ◌^◌, ◌<◌, ◌≤◌, min, Bool, true, false, cond, eqb, leb, ◌≢◌, List, ◌++◌, map, length, take, drop, set, ℤ, is_ok, IfOk, Ok, Err, Result, sym, refl, ap, ◌∙◌, subst, mod-lt, add-one, arith}
use Rattle.std.specs.List.{range_with_len}
use Rattle.std.proofs.lemmas.List.{length-take-le, get_or_append_left, take-append-drop, take-take, drop-set-lt}
use Rattle.std.proofs.lemmas.Bool.{true≢false, and_parts, and_from, leb-true, le-leb, both_ways}
use Rattle.plan.specs.Faults.{chain_number, outcome}
use Rattle.plan.specs.Scheme.{Scheme, sent_length}
use Rattle.plan.specs.declared.fault.ChainFault.{ChainFault}
use Rattle.code.specs.Coding.{around, pair}
use Rattle.code.specs.Numbers.{digit, bits_of}
use Rattle.code.proofs.Filled.{Filled, filled_none, filled_more, filled_all}
use Rattle.sender.proofs.Outcomes.{accepted}
use Rattle.score.specs.Blocks.{value_at, step_score, score_after, block_score}
use Rattle.score.specs.Scale.{Scale}
use Rattle.search.specs.Looking.{Found, Lengths, long_enough, search_answer, shown}
use Rattle.search.specs.Searching.{memory as state_bits, steps}
use Rattle.trellis.specs.Choice.{picked}
use Rattle.trellis.proofs.Written.{overwritten_length}
use Rattle.trellis.specs.Marks.{overwritten}
use Rattle.replay.specs.declared.call.Lent.{Lent}
use Rattle.replay.specs.Ledger.{lent_of}
use Rattle.replay.proofs.Kept.{look_yes, yes_only}
use Rattle.replay.proofs.Stretches.{take_of_set}

-- an accepted look is lent a byte for each bit of the block
block_yes : (s : Scheme) (l : Lengths) → search_answer s l ≡ 0 → s.block ≤ l.block
block_yes s l e = leb-true _ _ (and_parts _ _ (and_parts _ _ (and_parts _ _ (and_parts _ _ (yes_only (long_enough s l) e)).0).0).0).1

less : (n lent there : ℕ) → leb n (min lent there) ≡ true → leb n there ≡ true
less n lent there e = le-leb n there (omega (arith, leb-true n (min lent there) e))

-- a look that is lent everything is accepted where any is
lent_less : (s : Scheme) (whole : Lengths) (lent : Lent) → search_answer s (lent_of whole lent) ≡ 0 → search_answer s whole ≡ 0
lent_less s whole lent e =
    let marks = and_parts _ _ (yes_only (long_enough s (lent_of whole lent)) e) in
    let new = and_parts _ _ marks.0 in
    let old = and_parts _ _ new.0 in
    let both = and_parts _ _ old.0 in
    let states = 2 ^ state_bits s in
    ap (λ b. cond b 0 13)
    (and_from _ _ (and_from _ _ (and_from _ _ (and_from _ _
    (less (sent_length s) lent.memory whole.values both.0)
    (less s.block lent.block whole.block both.1))
    (less states lent.old whole.old old.1))
    (less states lent.new whole.new new.1))
    (less (s.block * states / 8) lent.marks whole.marks marks.1))

-- so where that look is refused, each is
pub look_refused : {X : Type 0} (s : Scheme) (whole : Lengths) (lent : Lent) (r : Result X ChainFault) → outcome chain_number r ≡ search_answer s (lent_of whole lent) → search_answer s whole ≢ 0 → is_ok r ≡ false
look_refused s whole lent (Ok score) e short = absurd (short (lent_less s whole lent (sym e)))
look_refused s whole lent (Err fault) e short = refl

-- a refusal has a number
module _ {X : Type 0} where
  pub refused_is : (r : Result X ChainFault) (n : ℕ) → outcome chain_number r ≡ n → is_ok r ≡ false → n ≢ 0
  refused_is r n e refused z = both_ways (is_ok r) refused (accepted {X = X} r (e ∙ z))

overwritten_front : (n : ℕ) (u : ℕ → Bool) (bytes : List ℕ) (count : ℕ) → take count (overwritten n u bytes) ≡ overwritten n u (take count bytes)
unfolding overwritten
overwritten_front zero u bytes count = refl
overwritten_front (suc n) u bytes count = take_of_set count n (overwritten n u bytes) (digit (u n)) ∙ ap (λ l. set l n (digit (u n))) (overwritten_front n u bytes count)

-- past the block a memory stays
pub overwritten_rest : (n : ℕ) (u : ℕ → Bool) (bytes : List ℕ) (count : ℕ) → n ≤ count → drop count (overwritten n u bytes) ≡ drop count bytes
unfolding overwritten
overwritten_rest zero u bytes count h = refl
overwritten_rest (suc n) u bytes count h = drop-set-lt count (overwritten n u bytes) n (digit (u n)) (omega arith) ∙ overwritten_rest n u bytes count (omega arith)

module _ {S : Type 0} (k : Scale S) (s : Scheme) where
  -- only the bits of the block count
  after_same : (values : ℕ → ℤ) (u w : ℕ → Bool) → around s u ≡ around s w → (t : ℕ) → score_after k s values u t ≡ score_after k s values w t
  after_same values u w same zero = refl
  after_same values u w same (suc t) =
      λ x. step_score k s values t (pair s.constraint (λ i. same x (t + i))) (after_same values u w same t x)

  found_same : (values : ℕ → ℤ) (u w : ℕ → Bool) (score : S) → 0 < s.block → ((i : ℕ) → i < s.block → u i ≡ w i) → Found k s values u score → Found k s values w score
  unfolding block_score
  found_same values u w score low same found = record {
    picks = λ i h. sym (same i h) ∙ found.picks i h;
    scores = found.scores ∙ after_same values u w (λ x i. same (i % s.block) (mod-lt i low) x) s.block;
    beats = found.beats;
  }

  module _ (l : Lengths) (n count : ℕ) (memory : List ℤ) (block front : List ℕ) (size : n ≡ l.block) (room : n ≤ length block) (lent : count ≡ l.values) where
    abbrev lent_values : ℕ → ℤ
    lent_values = value_at (take (sent_length s) (take count memory))

    abbrev all_values : ℕ → ℤ
    all_values = value_at (take (sent_length s) memory)

    values_same : search_answer s l ≡ 0 → lent_values ≡ all_values
    values_same e = ap value_at (take-take (sent_length s) count memory (omega (arith, look_yes s l e)))

    -- the block is written over the front, and the rest stays
    pub block_back : (r : Result S ChainFault) → outcome chain_number r ≡ search_answer s l → front ≡ cond (is_ok r) (shown k s lent_values (take n block)) (take n block) → front ++ drop n block ≡ cond (is_ok r) (shown k s all_values block) block
    block_back (Ok score) e is =
        let u = picked (steps k s all_values) (state_bits s) s.block in
        let front_is : front ≡ take n (overwritten s.block u block) =
        is ∙ ap (λ v. shown k s v (take n block)) (values_same (sym e)) ∙ sym (overwritten_front s.block u block n) in
        let rest_is : drop n block ≡ drop n (overwritten s.block u block) = sym (overwritten_rest s.block u block n (omega (arith, block_yes s l (sym e)))) in
        (λ x. front_is x ++ rest_is x) ∙ take-append-drop n (overwritten s.block u block)
    block_back (Err fault) e is = ap (λ f. f ++ drop n block) is ∙ take-append-drop n block

    -- what was found in the front is found in the whole
    pub found_back : 0 < s.block → (r : Result S ChainFault) → outcome chain_number r ≡ search_answer s l → front ≡ cond (is_ok r) (shown k s lent_values (take n block)) (take n block) → IfOk r (λ score. Found k s lent_values (bits_of front) score) → IfOk r (λ score. Found k s all_values (bits_of (front ++ drop n block)) score)
    found_back low (Ok score) e is found =
        let long : length front ≡ n = ap length is ∙ overwritten_length s.block _ (take n block) ∙ length-take-le n block room in
        found_same all_values (bits_of front) (bits_of (front ++ drop n block)) score low
        (λ i h. ap (λ b. eqb b 1) (sym (get_or_append_left front (drop n block) 0 i (omega (arith, block_yes s l (sym e))))))
        (subst (λ v. Found k s v (bits_of front) score) (values_same (sym e)) found)
    found_back low (Err fault) e is found = tt

  -- past the block a memory stays, whatever a look answers
  pub shown_rest : {X : Type 0} (r : Result X ChainFault) (values : ℕ → ℤ) (block now : List ℕ) → now ≡ cond (is_ok r) (shown k s values block) block → drop s.block now ≡ drop s.block block
  shown_rest (Ok score) values block now is = ap (drop s.block) is ∙ overwritten_rest s.block _ block s.block (omega arith)
  shown_rest (Err fault) values block now is = ap (drop s.block) is

-- a block written over a memory: its bits, and what lay past them
written : (n : ℕ) (u : ℕ → Bool) (bytes : List ℕ) → Filled (λ i. digit (u i)) n bytes (overwritten n u bytes)
unfolding overwritten
written zero u bytes = filled_none (λ i. digit (u i)) bytes
written (suc n) u bytes =
    subst (λ m. Filled (λ i. digit (u i)) m bytes (overwritten (suc n) u bytes)) (add-one n)
    (filled_more (λ i. digit (u i)) n bytes (overwritten n u bytes) (digit (u n)) (written n u bytes) refl)

-- so it does not matter what was written there before
written_over : (n : ℕ) (u : ℕ → Bool) (before block : List ℕ) → n ≤ length before → n ≤ length block → drop n before ≡ drop n block → overwritten n u before ≡ overwritten n u block
written_over n u before block h l e =
    let f = λ (i : ℕ). digit (u i) in
    filled_all f n before (overwritten n u before) h (written n u before) ∙ ap (λ rest. map f (range_with_len 0 n) ++ rest) e
    ∙ sym (filled_all f n block (overwritten n u block) l (written n u block))

-- the block that a look shows, over what the memory held before the calls
pub shown_over : {S : Type 0} (k : Scale S) (s : Scheme) (r : Result S ChainFault) (l : Lengths) (values : ℕ → ℤ) (block before now : List ℕ) →
    outcome chain_number r ≡ search_answer s l → l.block ≡ length block → length before ≡ length block → drop s.block before ≡ drop s.block block →
    now ≡ cond (is_ok r) (shown k s values before) before → is_ok r ≡ true → now ≡ shown k s values block
shown_over k s (Ok score) l values block before now e size long rest is yes_said =
    is ∙ written_over s.block _ before block (omega (arith, block_yes s l (sym e))) (omega (arith, block_yes s l (sym e))) rest
shown_over k s (Err fault) l values block before now e size long rest is yes_said = absurd (true≢false (sym yes_said))
