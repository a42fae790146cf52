-- How a row and its code are written.
-- Assumes nothing.
use Rattle.std.specs.Prelude.{ℕ, List, [], ◌++◌, codes, ◌==◌, if◌then◌else◌}
use Rattle.std.specs.Fmt.{decimal}
use Rattle.rows.specs.Interleavers.{name}
use Rattle.rows.specs.declared.interleaver.Interleaver.{Interleaver}
use Rattle.rows.specs.declared.interleaver.Interleaver.TheVariants.{UltraShort, Short, Medium, Long}
use Rattle.curve.specs.declared.choice.Choice.{Choice}

-- an interleaver's name in brackets
abbrev pub bracketed : Interleaver → List ℕ
bracketed i = codes " (" ++ (name i ++ codes ")")

-- the name of the interleaver of this number, and nothing behind another number
abbrev pub interleaver_note : ℕ → List ℕ
interleaver_note n =
    if n == 0 then bracketed UltraShort
    else (if n == 1 then bracketed Short
    else (if n == 2 then bracketed Medium
    else (if n == 3 then bracketed Long else [])))

-- a row and its code, with a note behind the interleaver's number
abbrev pub caption_with : List ℕ → Choice → List ℕ
caption_with note c =
    decimal c.row.bandwidth ++ (codes " kHz, waveform " ++ (decimal c.row.waveform ++ (codes ", interleaver " ++ (decimal c.row.interleaver
    ++ (note ++ (codes ", constraint length " ++ decimal c.constraint))))))

-- by numbers alone
abbrev pub caption : Choice → List ℕ
caption c = caption_with [] c

-- with the interleaver's name
abbrev pub named_caption : Choice → List ℕ
named_caption c = caption_with (interleaver_note c.row.interleaver) c
