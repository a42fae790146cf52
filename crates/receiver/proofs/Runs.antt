-- A run of locations that is written as a slice of its own.
-- Assumes nothing.
use Rattle.std.proofs.Common.{◌≡◌, ℕ, zero, suc, ◌+◌, ◌-◌, ◌≤◌, ℤ, List, ◌++◌, map, length, set, replicate, pos, sym, ap, ◌∙◌, zero-add, add-one, arith}
use borrow.Rule.Slice.PartMut.{put_mid, mid_of, mid_len}
use Rattle.std.proofs.Math.Seq.{paste}
use Rattle.std.specs.List.{range_with_len}
use Rattle.std.proofs.lemmas.List.{drop_all, append-nil}
use Rattle.std.proofs.lemmas.List.Edits.{paste_none, paste_more, paste_all}
use Rattle.std.proofs.lemmas.List.FromFn.{length-range_with_len, length-map-range_with_len, get_or-map-range_with_len}
use Rattle.std.proofs.lemmas.Slice.{put_mid-paste}
use Rattle.std.proofs.lemmas.Simd.{splat_is_map}
use Rattle.receiver.specs.Values.{with_values}

-- values that are pasted in are set one after the other
pasted : (xs : List ℤ) (first count n : ℕ) (f : ℕ → ℤ) → first + count ≤ length xs → n ≤ count → paste xs first (map f (range_with_len 0 count)) n ≡ with_values xs first f n
pasted xs first count zero f room le = sym (paste_none xs first (map f (range_with_len 0 count)))
pasted xs first count (suc n) f room le =
    let values = map f (range_with_len 0 count) in
    let long = length-map-range_with_len f 0 count in
    let more = paste_more xs first values n (f n) (omega arith) (omega (arith, long)) in
    ap (paste xs first values) (sym (add-one n)) ∙ sym more
    ∙ (λ i. set (pasted xs first count n f room (omega arith) i) (first + n) (get_or-map-range_with_len f 0 count n n (f n) (omega arith) (zero-add n) i))

-- a run from `start` to `end`, once what it holds is given by how long it is
pub run_set : (f : ℕ → ℕ → ℤ) (xs ys : List ℤ) (start end first count : ℕ) → start ≡ first → end ≡ start + count → end ≤ length xs →
    ys ≡ map (f (length (mid_of start (end - start) xs))) (range_with_len 0 (length (mid_of start (end - start) xs))) → put_mid start (end - start) xs ys ≡ with_values xs first (f count) count
run_set f xs ys start end first count begins ends room e =
    let long : length (mid_of start (end - start) xs) ≡ count = mid_len start end xs room ∙ omega arith in
    put_mid-paste start (end - start) xs ys (map (f count) (range_with_len 0 count)) count (e ∙ ap (λ n. map (f n) (range_with_len 0 n)) long)
    (omega arith) (sym (length-map-range_with_len (f count) 0 count))
    ∙ ap (λ n. paste xs n (map (f count) (range_with_len 0 count)) count) begins
    ∙ pasted xs first count count (f count) (omega arith) (omega arith)

-- a run that is filled with 0
pub run_cleared : (xs ys : List ℤ) (start end first count : ℕ) → start ≡ first → end ≡ start + count → end ≤ length xs →
    ys ≡ replicate (length (mid_of start (end - start) xs)) (pos 0) → put_mid start (end - start) xs ys ≡ with_values xs first (λ _. pos 0) count
run_cleared xs ys start end first count begins ends room e =
    run_set (λ _ _. pos 0) xs ys start end first count begins ends room (e ∙ splat_is_map (range_with_len 0 _) _ (pos 0) (length-range_with_len 0 _))

-- all of a list, set one value after the other
pub all_set : (xs : List ℤ) (f : ℕ → ℤ) → with_values xs 0 f (length xs) ≡ map f (range_with_len 0 (length xs))
all_set xs f =
    let values = map f (range_with_len 0 (length xs)) in
    let long = length-map-range_with_len f 0 (length xs) in
    sym (pasted xs 0 (length xs) (length xs) f (omega arith) (omega arith))
    ∙ paste_all xs 0 values (length xs) (sym long)
    ∙ ap (λ l. values ++ l) (drop_all (0 + length xs) xs (omega arith))
    ∙ append-nil values
