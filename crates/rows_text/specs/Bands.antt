-- The lines of each bandwidth.
-- Assumes nothing.
use Rattle.std.specs.Prelude.{ℕ, cond, List, [], ◌∷◌, ◌++◌, length, codes, Some, None, Option, ◌==◌}
use Rattle.std.specs.Fmt.{decimal}
use Rattle.std.specs.List.{range_with_len, flat_map}
use Rattle.rows.specs.Ratios.{fraction}
use Rattle.rows.specs.Table.{bandwidths}
use Rattle.rows.specs.declared.row.Entry.{Entry}
use Rattle.rows_text.specs.Columns.{waveform_rows, band_rows, sums}
use Rattle.rows_text.specs.declared.sums.Sums.{Sums}

-- an interleaver: its frames, the bits sent, the bits of a block and the increment
abbrev pub interleaver_text : Entry → List ℕ
interleaver_text e =
    codes ", " ++ (decimal e.frames ++ (32 ∷ (decimal e.sent_length ++ (32 ∷ (decimal e.block_length ++ (32 ∷ decimal e.increment))))))

-- a waveform and its rows: the rate, the bits of a symbol and the symbols of a frame, and then its interleavers
abbrev pub waveform_line : ℕ → List Entry → List ℕ
waveform_line waveform [] = decimal waveform ++ codes " -\n"
waveform_line waveform (e ∷ es) =
    decimal waveform ++ (32 ∷ (fraction e.rate ++ (32 ∷ (decimal e.symbol_bits ++ (32 ∷ (decimal e.frame_length
    ++ (flat_map interleaver_text (e ∷ es) ++ (10 ∷ []))))))))

-- the waveforms from 1 to 13
unfoldable pub waveform_lines : ℕ → List ℕ
waveform_lines bandwidth = flat_map (λ waveform. waveform_line waveform (waveform_rows bandwidth waveform)) (range_with_len 1 13)

-- how many rows there are
abbrev pub heading : ℕ → Sums → List ℕ
heading bandwidth s = decimal bandwidth ++ (codes " kHz, " ++ (decimal s.rows ++ codes " rows\n"))

-- the sums of the columns
abbrev pub sums_line : Sums → List ℕ
sums_line s =
    codes "sums of " ++ (decimal s.rows ++ (codes ": " ++ (decimal s.frames ++ (32 ∷ (decimal s.sent ++ (32 ∷ (decimal s.block
    ++ (32 ∷ (decimal s.increment ++ (10 ∷ []))))))))))

-- a bandwidth: its heading, its waveforms and its sums
abbrev pub band_text : ℕ → List ℕ
band_text bandwidth =
    heading bandwidth (sums (band_rows bandwidth)) ++ (waveform_lines bandwidth ++ sums_line (sums (band_rows bandwidth)))

-- every bandwidth of the standard
unfoldable pub bands_text : List ℕ
bands_text = flat_map band_text bandwidths

-- what is written of an interleaver, where it has a row
abbrev pub interleaver_part : Option Entry → List ℕ
interleaver_part None = []
interleaver_part (Some e) = interleaver_text e

-- what is written of a bandwidth, where it has a row
abbrev pub band_part : ℕ → List ℕ
band_part bandwidth = cond (length (band_rows bandwidth) == 0) [] (band_text bandwidth)
