-- What is written of rows.
-- Assumes nothing.
use Rattle.std.proofs.Common.{◌≡◌, ℕ, ◌+◌, cond, List, [], ◌∷◌, ◌++◌, length, Some, None, Option, sym, refl, ap, ◌∙◌, subst, append-nil, arith}
use Rattle.std.specs.Prelude.{◌==◌, codes}
use Rattle.std.specs.Fmt.{decimal}
use Rattle.std.specs.List.{range_with_len, filter_map, flat_map, cons_option}
use Rattle.std.proofs.lemmas.List.Concat.{flat_map-append}
use Rattle.rows.specs.Ratios.{fraction}
use Rattle.rows.specs.Rows.{row_setting, setting_entry}
use Rattle.rows.specs.Table.{bandwidths, table}
use Rattle.rows.specs.declared.row.Entry.{Entry}
use Rattle.rows_text.specs.Columns.{entry_at, waveform_rows, band_rows}
use Rattle.rows_text.specs.Bands.{interleaver_text, interleaver_part, waveform_line, waveform_lines, band_text, band_part, bands_text}
use Rattle.rows_text.proofs.Counted.{first_rows, rows_more}

part_is : (o : Option Entry) → interleaver_part o ≡ flat_map interleaver_text (cons_option o [])
part_is None = refl
part_is (Some e) = sym (append-nil (interleaver_text e))

-- an interleaver more
pub interleavers_more : (b w n : ℕ) (o : Option Entry) → o ≡ entry_at b w n →
    flat_map interleaver_text (first_rows b w n) ++ interleaver_part o ≡ flat_map interleaver_text (first_rows b w (n + 1))
interleavers_more b w n o e =
    ap (λ x. flat_map interleaver_text (first_rows b w n) ++ interleaver_part x) e
    ∙ ap (λ l. flat_map interleaver_text (first_rows b w n) ++ l) (part_is (entry_at b w n))
    ∙ sym (flat_map-append interleaver_text (first_rows b w n) (cons_option (entry_at b w n) []))
    ∙ ap (flat_map interleaver_text) (sym (rows_more b w n))

line_of : (w : ℕ) (o : Option Entry) (rest : List Entry) (e : Entry) → Some e ≡ o →
    decimal w ++ (32 ∷ (fraction e.rate ++ (32 ∷ (decimal e.symbol_bits ++ (32 ∷ (decimal e.frame_length
    ++ (flat_map interleaver_text (cons_option o rest) ++ (10 ∷ []))))))))
    ≡ waveform_line w (cons_option o rest)
line_of w o rest e h = subst
    (λ x. decimal w ++ (32 ∷ (fraction e.rate ++ (32 ∷ (decimal e.symbol_bits ++ (32 ∷ (decimal e.frame_length
    ++ (flat_map interleaver_text (cons_option x rest) ++ (10 ∷ []))))))))
    ≡ waveform_line w (cons_option x rest)) h refl

-- a waveform that has a row with the ultra short interleaver
pub line_shown : (b w : ℕ) (e : Entry) → Some e ≡ entry_at b w 0 →
    decimal w ++ (32 ∷ (fraction e.rate ++ (32 ∷ (decimal e.symbol_bits ++ (32 ∷ (decimal e.frame_length
    ++ (flat_map interleaver_text (waveform_rows b w) ++ (10 ∷ []))))))))
    ≡ waveform_line w (waveform_rows b w)
unfolding waveform_rows
line_shown b w e h = line_of w (entry_at b w 0) (filter_map (entry_at b w) (range_with_len 1 3)) e h

none_else : (b w : ℕ) (o : _) → None ≡ setting_entry (record { bandwidth = b; waveform = w; interleaver = 0 }) o →
    filter_map (λ i. setting_entry (record { bandwidth = b; waveform = w; interleaver = i }) o) (range_with_len 0 4) ≡ []
none_else b w None h = refl
none_else b w (Some s) h = let z : ◌≡◌ {A = ℕ} 0 1 = cc in absurd (omega arith)

-- and one that has none, which then has none at all
pub dash_shown : (b w : ℕ) → None ≡ entry_at b w 0 → decimal w ++ codes " -\n" ≡ waveform_line w (waveform_rows b w)
unfolding waveform_rows
dash_shown b w h =
    let none : filter_map (entry_at b w) (range_with_len 0 4) ≡ [] = none_else b w (row_setting (record { bandwidth = b; waveform = w; interleaver = 0 })) h in
    ap (waveform_line w) (sym none)

pub lines_all : (b : ℕ) → flat_map (λ w. waveform_line w (waveform_rows b w)) (range_with_len 1 13) ≡ waveform_lines b
unfolding waveform_lines
lines_all b = refl

-- computed: the bandwidths below 64 that have a row are the standard's
with_rows : (f : ℕ → List ℕ) → flat_map (λ b. cond (length (band_rows b) == 0) [] (f b)) (range_with_len 0 64) ≡ flat_map f bandwidths
unfolding band_rows waveform_rows table
with_rows f = refl

pub bands_all : flat_map band_part (range_with_len 0 64) ≡ bands_text
unfolding bands_text
bands_all = with_rows band_text
