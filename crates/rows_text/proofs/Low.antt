-- The sums of every bandwidth are far below the greatest number of 64 bits.
-- Assumes nothing.
use Rattle.std.proofs.Common.{◌≡◌, ℕ, zero, suc, ◌-◌, ◌^◌, ◌≤◌, Bool, true, false, cond, ◌&&◌, position, List, [], ◌∷◌, get_or, length, Some, None, Option, sym, refl, ap, ◌∙◌, arith}
use Rattle.std.specs.Prelude.{leb, ◌==◌, min}
use Rattle.std.specs.List.{range_with_len, filter_map, flat_map, list_all}
use Rattle.std.proofs.lemmas.Bool.{and_parts, leb-true}
use Rattle.plan.specs.Questions.{within}
use Rattle.rows.specs.Rows.{setting_at, setting_entry}
use Rattle.rows.specs.Table.{bandwidths, table}
use Rattle.rows.specs.declared.row.Entry.{Entry}
use Rattle.rows_text.specs.Columns.{waveform_rows, band_rows, sums, stopped}
use Rattle.rows_text.specs.declared.sums.Sums.{Sums}

-- each sum fits 32 bits
abbrev low : Sums → Bool
low s = leb s.rows (2 ^ 32) && (leb s.frames (2 ^ 32) && (leb s.sent (2 ^ 32) && (leb s.block (2 ^ 32) && leb s.increment (2 ^ 32))))

-- the rows of a bandwidth at this place of the table
abbrev rows_at : ℕ → Option ℕ → List Entry
rows_at b o = flat_map
    (λ w. filter_map (λ i. setting_entry (record { bandwidth = b; waveform = w; interleaver = i }) (cond (within 1 13 w) (setting_at o (w - 1)) None)) (range_with_len 0 4))
    (range_with_len 1 13)

each_test : {X : Type 0} (test : X → Bool) (d : X) (xs : List X) → list_all test xs ≡ true → test d ≡ true → (i : ℕ) → test (get_or xs i d) ≡ true
each_test test d [] t e i = e
each_test test d (x ∷ xs) t e zero = (and_parts (test x) _ t).0
each_test test d (x ∷ xs) t e (suc i) = each_test test d xs (and_parts (test x) _ t).1 e i

-- computed: the twelve bandwidths, and one that has no place
place_low : (b : ℕ) (o : Option ℕ) → low (sums (rows_at b o)) ≡ true
unfolding table
place_low b None = refl
place_low b (Some i) = each_test
    (λ ss. low (sums (flat_map
    (λ w. filter_map (λ i. setting_entry (record { bandwidth = b; waveform = w; interleaver = i }) (cond (within 1 13 w) (get_or ss (w - 1) None) None)) (range_with_len 0 4))
    (range_with_len 1 13))))
    [] table refl refl i

band_low : (b : ℕ) → low (sums (band_rows b)) ≡ true
unfolding band_rows waveform_rows
band_low b = place_low b (position (λ x. x == b) bandwidths)

min_low : (n : ℕ) → n ≤ 2 ^ 32 → min n (2 ^ 64 - 1) ≡ n
min_low n h = omega arith

stopped_low : (s : Sums) → low s ≡ true → stopped s ≡ s
stopped_low s t =
    let p = and_parts (leb s.rows (2 ^ 32)) _ t in
    let q = and_parts (leb s.frames (2 ^ 32)) _ p.1 in
    let r = and_parts (leb s.sent (2 ^ 32)) _ q.1 in
    let u = and_parts (leb s.block (2 ^ 32)) _ r.1 in
    let a = min_low s.rows (leb-true _ _ p.0) in
    let b = min_low s.frames (leb-true _ _ q.0) in
    let c = min_low s.sent (leb-true _ _ r.0) in
    let d = min_low s.block (leb-true _ _ u.0) in
    let e = min_low s.increment (leb-true _ _ u.1) in
    λ k. record { rows = a k; frames = b k; sent = c k; block = d k; increment = e k }

-- no sum of a bandwidth is stopped
pub none_stopped : (b : ℕ) → stopped (sums (band_rows b)) ≡ sums (band_rows b)
none_stopped b = stopped_low (sums (band_rows b)) (band_low b)
