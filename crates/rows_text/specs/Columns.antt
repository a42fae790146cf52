-- The rows of a bandwidth, and what their columns add up to.
-- Assumes nothing.
use Rattle.std.specs.Prelude.{ℕ, ◌-◌, ◌^◌, min, List, length, Option}
use Rattle.std.specs.List.{range_with_len, filter_map, flat_map, sum_by}
use Rattle.rows.specs.Rows.{row_entry}
use Rattle.rows.specs.declared.row.Entry.{Entry}
use Rattle.rows_text.specs.declared.sums.Sums.{Sums}

-- the row of a bandwidth, a waveform and an interleaver, where the standard has it
abbrev pub entry_at : ℕ → ℕ → ℕ → Option Entry
entry_at bandwidth waveform interleaver = row_entry (record { bandwidth = bandwidth; waveform = waveform; interleaver = interleaver })

-- the rows of a waveform, from the ultra short interleaver to the long one
unfoldable pub waveform_rows : ℕ → ℕ → List Entry
waveform_rows bandwidth waveform = filter_map (entry_at bandwidth waveform) (range_with_len 0 4)

-- the rows of a bandwidth, of waveforms 1 to 13
unfoldable pub band_rows : ℕ → List Entry
band_rows bandwidth = flat_map (waveform_rows bandwidth) (range_with_len 1 13)

-- how many rows there are, and their columns added up
abbrev pub sums : List Entry → Sums
sums rows = record {
  rows = length rows;
  frames = sum_by (λ e. e.frames) rows;
  sent = sum_by (λ e. e.sent_length) rows;
  block = sum_by (λ e. e.block_length) rows;
  increment = sum_by (λ e. e.increment) rows;
}

-- sums in 64 bits
abbrev pub stopped : Sums → Sums
stopped s = record {
  rows = min s.rows (2 ^ 64 - 1);
  frames = min s.frames (2 ^ 64 - 1);
  sent = min s.sent (2 ^ 64 - 1);
  block = min s.block (2 ^ 64 - 1);
  increment = min s.increment (2 ^ 64 - 1);
}
