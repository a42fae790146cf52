-- A memory that is written frame by frame.
-- Assumes nothing.
use Rattle.std.proofs.Common.{◌≡◌, ℕ, zero, suc, ◌+◌, ◌-◌, ◌≤◌, List, ◌++◌, map, length, get_or, set, sym, ap, ◌∙◌, subst, add-zero, zero-add, add-one, arith}
use borrow.Rule.Slice.PartMut.{put_mid, mid_of, mid_len}
use Rattle.std.proofs.Math.Seq.{paste}
use Rattle.std.specs.List.{range_with_len}
use Rattle.std.proofs.lemmas.List.{drop_all, append-nil}
use Rattle.std.proofs.lemmas.List.Edits.{paste_none, paste_more}
use Rattle.std.proofs.lemmas.List.FromFn.{length-map-range_with_len, get_or-map-range_with_len}
use Rattle.std.proofs.lemmas.Slice.{put_mid-paste}
use Rattle.code.proofs.Filled.{Filled, filled_more, filled_all}

-- all places of a memory
pub filled_whole : (f : ℕ → ℕ) (n : ℕ) (old new : List ℕ) → n ≡ length old → Filled f n old new → new ≡ map f (range_with_len 0 (length old))
filled_whole f n old new all h =
    filled_all f n old new (omega arith) h
    ∙ ap (λ l. map f (range_with_len 0 n) ++ l) (drop_all n old (omega arith))
    ∙ append-nil (map f (range_with_len 0 n))
    ∙ ap (λ k. map f (range_with_len 0 k)) all

module _ (f : ℕ → ℕ) (old new : List ℕ) (first count : ℕ) (before : Filled f first old new) (room : first + count ≤ length new) where
  values : List ℕ
  values = map (λ place. f (first + place)) (range_with_len 0 count)

  filled_part : (n : ℕ) → n ≤ count → Filled f (first + n) old (paste new first values n)
  unfolding values
  filled_part zero h =
      subst (λ l. Filled f (first + 0) old l) (paste_none new first values) (subst (λ n. Filled f n old new) (sym (add-zero first)) before)
  filled_part (suc n) h =
      let value = get_or-map-range_with_len (λ place. f (first + place)) 0 count n n 0 (omega arith) (zero-add n) in
      let long = length-map-range_with_len (λ place. f (first + place)) 0 count in
      let part = paste new first values n in
      let more = filled_more f (first + n) old part _ (filled_part n (omega arith)) value in
      subst (λ l. Filled f (first + suc n) old l) (paste_more new first values n 0 (omega arith) (omega (arith, long)) ∙ ap (paste new first values) (add-one n))
      (subst (λ k. Filled f k old (set part (first + n) (get_or values n 0))) (omega arith) more)

  pub filled_run : (g : ℕ → ℕ) (ys : List ℕ) (end next : ℕ) → g ≡ f → end ≡ first + count → next ≡ first + count →
      ys ≡ map (λ place. g (first + place)) (range_with_len 0 (length (mid_of first (end - first) new))) → Filled f next old (put_mid first (end - first) new ys)
  unfolding values
  filled_run g ys end next same ends on e =
      let long : length (mid_of first (end - first) new) ≡ count = mid_len first end new (omega arith) ∙ omega arith in
      subst (λ l. Filled f next old l)
      (sym (put_mid-paste first (end - first) new ys values count (e ∙ (λ i. map (λ place. same i (first + place)) (range_with_len 0 (long i)))) (omega arith)
      (sym (length-map-range_with_len (λ place. f (first + place)) 0 count))))
      (subst (λ k. Filled f k old (paste new first values count)) (sym on) (filled_part count (omega arith)))
