-- What the standard says of a row.
-- Assumes nothing.
use Rattle.std.specs.Prelude.{ℕ, ◌-◌, ◌*◌, ◌/◌, cond, [], ◌∷◌, Some, None, Option, ◌==◌, position, slice_index, slice_index_or}
use Rattle.std.specs.Option.{option_map}
use Rattle.plan.specs.Questions.{within}
use Rattle.rows.specs.Table.{bandwidths, table}
use Rattle.rows.specs.declared.rate.Rate.{Rate}
use Rattle.rows.specs.declared.row.Entry.{Entry}
use Rattle.rows.specs.declared.row.Row.{Row}
use Rattle.rows.specs.declared.table.Depth.{Depth}
use Rattle.rows.specs.declared.table.Setting.{Setting}

-- the bits of a symbol for the waveforms from 1 on
abbrev pub symbol_bits : ℕ → ℕ
symbol_bits waveform = slice_index (1 ∷ 1 ∷ 1 ∷ 1 ∷ 1 ∷ 2 ∷ 3 ∷ 4 ∷ 5 ∷ 6 ∷ 6 ∷ 8 ∷ 2 ∷ []) (waveform - 1)

-- what the table has at a bandwidth's place and a waveform's place
abbrev pub setting_at : Option ℕ → ℕ → Option Setting
setting_at None place = None
setting_at (Some band) place = slice_index_or (slice_index_or table band []) place None

-- what the table has for a row's bandwidth and waveform
abbrev pub row_setting : Row → Option Setting
row_setting row = cond (within 1 13 row.waveform) (setting_at (position (λ b. b == row.bandwidth) bandwidths) (row.waveform - 1)) None

-- the interleaver of a number: 0 ultra short, 1 short, 2 medium, 3 long
abbrev pub depth_at : Setting → ℕ → Option Depth
depth_at s interleaver =
    cond (interleaver == 0) (Some s.1)
    (cond (interleaver == 1) (Some s.2)
    (cond (interleaver == 2) (Some s.3)
    (cond (interleaver == 3) (Some s.4) None)))

-- the frames share what is sent: a frame has as many symbols as fill it
abbrev pub entry_of : Rate → ℕ → Depth → Entry
entry_of rate bits d = record {
  rate = rate;
  symbol_bits = bits;
  frames = d.0;
  frame_length = d.1 / (d.0 * bits);
  sent_length = d.1;
  block_length = d.2;
  increment = d.3;
}

abbrev pub setting_entry : Row → Option Setting → Option Entry
setting_entry row None = None
setting_entry row (Some s) = option_map (entry_of s.0 (symbol_bits row.waveform)) (depth_at s row.interleaver)

-- the row of the standard with these three numbers, where it has one
abbrev pub row_entry : Row → Option Entry
row_entry row = setting_entry row (row_setting row)
