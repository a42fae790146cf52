-- The rows of the standard, and a plan, as lines of text.
-- Assumes nothing.
use Rattle.std.specs.Prelude.{ℕ, ◌/◌, List, [], ◌∷◌, ◌++◌, Some, None, Option, map, codes}
use Rattle.std.specs.Fmt.{decimal}
use Rattle.std.specs.List.{flat_map, range_with_len}
use Rattle.plan.specs.Scheme.{Scheme, sent_length}
use Rattle.rows.specs.Ratios.{fraction}
use Rattle.rows.specs.Rows.{row_entry}
use Rattle.rows.specs.Table.{bandwidths}
use Rattle.rows.specs.declared.row.Entry.{Entry}
use Rattle.rows.specs.declared.row.Row.{Row}

-- words on a line, a blank between two, and then the rest of a text
abbrev pub line_then : List (List ℕ) → List ℕ → List ℕ
line_then [] rest = 10 ∷ rest
line_then (word ∷ []) rest = word ++ (10 ∷ rest)
line_then (word ∷ next ∷ words) rest = word ++ (32 ∷ line_then (next ∷ words) rest)

abbrev pub lines_of : List (List (List ℕ)) → List ℕ
lines_of [] = []
lines_of (line ∷ lines) = line_then line (lines_of lines)

-- the line of a row, where the standard has it
abbrev pub row_line : Row → Option Entry → List ℕ
row_line row None = []
row_line row (Some e) = lines_of
    ((decimal row.bandwidth ∷
    decimal row.waveform ∷
    decimal row.interleaver ∷
    fraction e.rate ∷
    decimal e.symbol_bits ∷
    decimal e.frame_length ∷
    decimal e.block_length ∷
    decimal e.sent_length ∷
    decimal e.increment ∷
    []) ∷ [])

abbrev pub line_at : ℕ → ℕ → ℕ → List ℕ
line_at b w i = let row : Row = record { bandwidth = b; waveform = w; interleaver = i } in row_line row (row_entry row)

-- the lines of the four interleavers
abbrev pub waveform_lines : ℕ → ℕ → List ℕ
waveform_lines b w = flat_map (line_at b w) (range_with_len 0 4)

-- the lines of the waveforms from 1 to 13
abbrev pub bandwidth_lines : ℕ → List ℕ
bandwidth_lines b = flat_map (waveform_lines b) (range_with_len 1 13)

-- the names of the columns
abbrev pub heading : List ℕ
heading = codes "# bandwidth waveform interleaver rate q frame_length B N increment\n"

-- every row, in the order of its three numbers
abbrev pub rows_text : List ℕ
rows_text = heading ++ flat_map bandwidth_lines bandwidths

-- a name and its number
abbrev pub named : List ℕ → ℕ → List (List ℕ)
named name n = name ∷ decimal n ∷ []

-- the row that was asked for, and the constraint length
abbrev pub asked_lines : Row → ℕ → List (List (List ℕ))
asked_lines row constraint =
    named (codes "bandwidth") row.bandwidth ∷
    named (codes "waveform") row.waveform ∷
    named (codes "interleaver") row.interleaver ∷
    named (codes "constraint") constraint ∷
    []

abbrev pub rate_lines : Option Entry → List (List (List ℕ))
rate_lines None = []
rate_lines (Some e) = (codes "rate" ∷ fraction e.rate ∷ []) ∷ []

-- what a block has, with the bits that are sent for it
abbrev pub size_lines : Scheme → ℕ → List (List (List ℕ))
size_lines s sent =
    named (codes "q") s.bits ∷
    named (codes "frame_length") s.frame ∷
    named (codes "B") s.block ∷
    named (codes "N") sent ∷
    []

-- the symbols that are sent for it, and in which order bits are sent
abbrev pub order_lines : Scheme → ℕ → List (List (List ℕ))
order_lines s symbols =
    named (codes "symbols") symbols ∷
    named (codes "increment") s.increment ∷
    named (codes "period") s.period ∷
    []

-- the send list, on one line
abbrev pub list_lines : Scheme → List (List (List ℕ))
list_lines s = (codes "send_list" ∷ map decimal s.entries) ∷ []

-- a plan of a row
abbrev pub plan_text : Row → Scheme → List ℕ
plan_text row s =
    lines_of (asked_lines row s.constraint)
    ++ (lines_of (rate_lines (row_entry row))
    ++ (lines_of (size_lines s (sent_length s))
    ++ (lines_of (order_lines s (sent_length s / s.bits)) ++ lines_of (list_lines s))))
