-- Rows in order: one interleaver or one waveform more.
-- Assumes nothing.
use Rattle.std.proofs.Common.{◌≡◌, ℕ, zero, suc, ◌+◌, ◌-◌, ◌≤◌, List, [], ◌∷◌, ◌++◌, Some, None, Option, sym, refl, ap, ◌∙◌, append_assoc, append-nil, add-zero, arith}
use Rattle.std.specs.List.{range_with_len, filter_map, flat_map, cons_option}
use Rattle.std.proofs.lemmas.List.Elements.{filter_map-append}
use Rattle.std.proofs.lemmas.List.Concat.{flat_map-append}
use Rattle.rows.specs.declared.row.Entry.{Entry}
use Rattle.rows_text.specs.Columns.{entry_at, waveform_rows, band_rows}

range_suc : (a n : ℕ) → range_with_len a (suc n) ≡ range_with_len a n ++ (a + n) ∷ []
range_suc a zero = ap (λ x. x ∷ []) (sym (add-zero a))
range_suc a (suc n) =
    let e : a + 1 + n ≡ a + suc n = omega arith in
    ap (λ l. a ∷ l) (range_suc (a + 1) n ∙ ap (λ x. range_with_len (a + 1) n ++ x ∷ []) e)

range_more : (a n m : ℕ) → a + n ≡ m → range_with_len a (n + 1) ≡ range_with_len a n ++ m ∷ []
range_more a n m h = let e : n + 1 ≡ suc n = omega arith in ap (range_with_len a) e ∙ range_suc a n ∙ ap (λ x. range_with_len a n ++ x ∷ []) h

-- what is written of each number from a on, and of m behind them
each_more : {A : Type 0} (f : ℕ → List A) (a n m : ℕ) → a + n ≡ m → flat_map f (range_with_len a n) ++ f m ≡ flat_map f (range_with_len a (n + 1))
each_more f a n m e =
    sym (ap (flat_map f) (range_more a n m e) ∙ flat_map-append f (range_with_len a n) (m ∷ [])
    ∙ ap (λ l. flat_map f (range_with_len a n) ++ l) (append-nil (f m)))

pub from_0 : {A : Type 0} (f : ℕ → List A) (m : ℕ) → flat_map f (range_with_len 0 m) ++ f m ≡ flat_map f (range_with_len 0 (m + 1))
from_0 f m = let e : 0 + m ≡ m = omega arith in each_more f 0 m m e

pub from_1 : {A : Type 0} (f : ℕ → List A) (m : ℕ) → 1 ≤ m → flat_map f (range_with_len 1 (m - 1)) ++ f m ≡ flat_map f (range_with_len 1 (m + 1 - 1))
from_1 f m h =
    let e : 1 + (m - 1) ≡ m = omega arith in
    let n : m - 1 + 1 ≡ m + 1 - 1 = omega arith in
    each_more f 1 (m - 1) m e ∙ ap (λ k. flat_map f (range_with_len 1 k)) n

-- the first interleavers of a waveform
abbrev pub first_rows : ℕ → ℕ → ℕ → List Entry
first_rows bandwidth waveform n = filter_map (entry_at bandwidth waveform) (range_with_len 0 n)

pub rows_more : (b w n : ℕ) → first_rows b w (n + 1) ≡ first_rows b w n ++ cons_option (entry_at b w n) []
rows_more b w n = ap (filter_map (entry_at b w)) (range_more 0 n n (let e : 0 + n ≡ n = omega arith in e)) ∙ filter_map-append (entry_at b w) (range_with_len 0 n) (n ∷ [])

pub rows_all : (b w : ℕ) → first_rows b w 4 ≡ waveform_rows b w
unfolding waveform_rows
rows_all b w = refl

-- a row more, or none
pub row_joined : (before : List Entry) (b w n : ℕ) (o : Option Entry) → o ≡ entry_at b w n →
    (before ++ first_rows b w n) ++ cons_option o [] ≡ before ++ first_rows b w (n + 1)
row_joined before b w n o e =
    append_assoc before (first_rows b w n) (cons_option o [])
    ∙ ap (λ l. before ++ l) (ap (λ x. first_rows b w n ++ cons_option x []) e ∙ sym (rows_more b w n))

pub waveforms_all : (b : ℕ) → flat_map (waveform_rows b) (range_with_len 1 13) ≡ band_rows b
unfolding band_rows
waveforms_all b = refl
