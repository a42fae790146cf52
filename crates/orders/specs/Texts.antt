-- What is written where words are no order's.
-- Assumes nothing.
use Rattle.std.specs.Prelude.{ℕ, List, [], ◌∷◌, ◌++◌, codes}
use Rattle.orders.specs.declared.slip.Slip.{Slip}
use Rattle.orders.specs.declared.slip.Slip.TheVariants.{Word, Count, Files, Number, Setting, Score}

-- what is told of words
abbrev pub sentence : Slip → List ℕ
sentence Word = codes "the first word is none of rows, plan, send, receive, count"
sentence Count = codes "a row takes four numbers: bandwidth, waveform, interleaver, constraint length"
sentence Files = codes "count takes two files"
sentence (Number name) = codes "the " ++ name.now ++ codes " is not a whole number, or too great"
sentence Setting = codes "there is no such option here, or it lacks a word"
sentence Score = codes "the score is none of total, worst, count"

-- the lines of the usage
abbrev pub usage_text : List ℕ
usage_text =
    codes "usage: chain rows" ++ (10 ∷ []) ++
    codes "       chain plan ROW" ++ (10 ∷ []) ++
    codes "       chain send ROW [--random BLOCKS SEED] [--copy FILE] [--table FILE]" ++ (10 ∷ []) ++
    codes "       chain receive ROW [--score total|worst|count] [--table FILE]" ++ (10 ∷ []) ++
    codes "       chain count SENT SHOWN" ++ (10 ∷ []) ++
    codes "ROW is four numbers: bandwidth in kHz, waveform, interleaver (0 to 3), constraint length (7 or 9)"
