-- The whole table passes one test, so each of its entries is consistent.
-- Assumes nothing.
use Rattle.std.proofs.Common.{◌≡◌, ℕ, zero, suc, ◌+◌, ◌-◌, ◌*◌, ◌≤◌, Bool, true, false, cond, ◌&&◌, eqb, position, List, [], ◌∷◌, get_or, Some, None, Option, sym, refl, subst, add-zero, arith}
use Rattle.std.proofs.lemmas.Bool.{and_parts, leb-true}
use Rattle.plan.specs.Questions.{within}
use Rattle.rows.specs.Rows.{setting_at, symbol_bits, row_setting, depth_at, entry_of}
use Rattle.rows.specs.Table.{bandwidths, table}
use Rattle.rows.specs.declared.rate.Rate.{Rate}
use Rattle.rows.specs.declared.row.Row.{Row}
use Rattle.rows.specs.declared.table.Depth.{Depth}
use Rattle.rows.specs.declared.table.Setting.{Setting}
use Rattle.rows.proofs.Passing.{entry_passes}

-- an interleaver: its frames have symbols, and its entry is consistent
abbrev pub depth_passes : Rate → ℕ → Depth → Bool
depth_passes rate bits d = within 1 2211840 (d.0 * bits) && entry_passes (entry_of rate bits d)

abbrev pub setting_passes : ℕ → Option Setting → Bool
setting_passes waveform None = true
setting_passes waveform (Some s) =
    let test : Depth → Bool = depth_passes s.0 (symbol_bits waveform) in test s.1 && (test s.2 && (test s.3 && test s.4))

-- the waveforms of a bandwidth, from the given one on
abbrev pub band_passes : ℕ → List (Option Setting) → Bool
band_passes waveform [] = true
band_passes waveform (s ∷ ss) = setting_passes waveform s && band_passes (suc waveform) ss

abbrev pub table_passes : List (List (Option Setting)) → Bool
table_passes [] = true
table_passes (b ∷ bs) = band_passes 1 b && table_passes bs

-- computed: 572 rows, with two constraint lengths each
whole_table : table_passes table ≡ true
unfolding table
whole_table = refl

at_band : (bs : List (List (Option Setting))) → table_passes bs ≡ true → (i : ℕ) → band_passes 1 (get_or bs i []) ≡ true
at_band [] t i = refl
at_band (b ∷ bs) t zero = (and_parts (band_passes 1 b) _ t).0
at_band (b ∷ bs) t (suc i) = at_band bs (and_parts (band_passes 1 b) _ t).1 i

at_place : (w : ℕ) (ss : List (Option Setting)) → band_passes w ss ≡ true → (j : ℕ) → setting_passes (w + j) (get_or ss j None) ≡ true
at_place w [] t j = refl
at_place w (s ∷ ss) t zero = subst (λ m. setting_passes m s ≡ true) (sym (add-zero w)) (and_parts (setting_passes w s) _ t).0
at_place w (s ∷ ss) t (suc j) =
    subst (λ m. setting_passes m (get_or ss j None) ≡ true) (let e : suc w + j ≡ w + suc j = omega arith in e)
    (at_place (suc w) ss (and_parts (setting_passes w s) _ t).1 j)

-- what the table has for a waveform passes
printed_passes : (band waveform : ℕ) → 1 ≤ waveform → setting_passes waveform (get_or (get_or table band []) (waveform - 1) None) ≡ true
printed_passes band waveform h =
    let o : Option Setting = get_or (get_or table band []) (waveform - 1) None in
    let e : 1 + (waveform - 1) ≡ waveform = omega arith in
    subst (λ m. setting_passes m o ≡ true) e (at_place 1 (get_or table band []) (at_band table whole_table band) (waveform - 1))

pub record Found (row : Row) (s : Setting) : Type 0 where
  pub low : 1 ≤ row.waveform
  pub high : row.waveform ≤ 13
  pub passes : setting_passes row.waveform (Some s) ≡ true

at_setting : (o : Option ℕ) (row : Row) (s : Setting) → 1 ≤ row.waveform → setting_at o (row.waveform - 1) ≡ Some s →
    setting_passes row.waveform (Some s) ≡ true
at_setting None row s low e = let z : ◌≡◌ {A = ℕ} 0 1 = cc in absurd (omega arith)
at_setting (Some band) row s low e = subst (λ o. setting_passes row.waveform o ≡ true) e (printed_passes band row.waveform low)

found_where : (b : Bool) (row : Row) (s : Setting) → within 1 13 row.waveform ≡ b →
    cond b (setting_at (position (λ b. eqb b row.bandwidth) bandwidths) (row.waveform - 1)) None ≡ Some s → Found row s
found_where true row s t e =
    let p = and_parts _ _ t in
    let low : 1 ≤ row.waveform = leb-true _ _ p.0 in
    record { low = low; high = leb-true _ _ p.1; passes = at_setting (position (λ b. eqb b row.bandwidth) bandwidths) row s low e }
found_where false row s t e = let z : ◌≡◌ {A = ℕ} 0 1 = cc in absurd (omega arith)

-- a setting that the table has for a row
pub found_row : (row : Row) (s : Setting) → row_setting row ≡ Some s → Found row s
found_row row s e = found_where (within 1 13 row.waveform) row s refl e

or_later : (test : Depth → Bool) (b : Bool) (x d : Depth) (rest : Option Depth) → test x ≡ true → (rest ≡ Some d → test d ≡ true) →
    cond b (Some x) rest ≡ Some d → test d ≡ true
or_later test true x d rest t later e = let same : x ≡ d = cc in subst (λ y. test y ≡ true) same t
or_later test false x d rest t later e = later e

-- an interleaver that a setting has
pub found_depth : (waveform interleaver : ℕ) (s : Setting) (d : Depth) → setting_passes waveform (Some s) ≡ true →
    depth_at s interleaver ≡ Some d → depth_passes s.0 (symbol_bits waveform) d ≡ true
found_depth waveform i s d t e =
    let test : Depth → Bool = depth_passes s.0 (symbol_bits waveform) in
    let p1 = and_parts (test s.1) _ t in
    let p2 = and_parts (test s.2) _ p1.1 in
    let p3 = and_parts (test s.3) _ p2.1 in
    or_later test (eqb i 0) s.1 d _ p1.0
    (or_later test (eqb i 1) s.2 d _ p2.0
    (or_later test (eqb i 2) s.3 d _ p3.0
    (or_later test (eqb i 3) s.4 d _ p3.1 (λ n. let z : ◌≡◌ {A = ℕ} 0 1 = cc in absurd (omega arith))))) e

-- what the table has for a row
pub row_passes : (row : Row) (s : Setting) (d : Depth) → Some s ≡ row_setting row → Some d ≡ depth_at s row.interleaver →
    depth_passes s.0 (symbol_bits row.waveform) d ≡ true
row_passes row s d e f = found_depth row.waveform row.interleaver s d (found_row row s (sym e)).passes (sym f)
