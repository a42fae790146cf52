-- Scores as text.
-- Assumes nothing.
use Rattle.std.specs.Prelude.{ℕ, List, [], ◌∷◌, ◌++◌, codes}
use Rattle.std.specs.Fmt.{decimal}
use Rattle.score.specs.declared.tally.Tally.{Tally}
use Rattle.score.specs.declared.tally.Tally.TheVariants.{Counted as TallyCounted, Full as TallyFull}
use Rattle.entries.specs.Texts.{bits_text}
use Rattle.reception.specs.declared.written.ScoreText.{ScoreText}
use Rattle.reception.specs.declared.written.ScoreText.TheVariants.{Number, Counted, Full}

-- a number, or a count and a total, or the word for a full count
abbrev pub score_text : ScoreText → List ℕ
score_text (Number score) = decimal score
score_text (Counted count total) = decimal count ++ codes " " ++ decimal total
score_text Full = codes "full"

-- the text of a score of Count-first
abbrev pub tally_text : Tally → ScoreText
tally_text (TallyCounted count total) = Counted count total
tally_text TallyFull = Full

-- the score in a comment, and the block in a line of its own
abbrev pub shown_text : ScoreText → List ℕ → List ℕ
shown_text score block = codes "# score " ++ score_text score ++ (10 ∷ []) ++ bits_text block ++ (10 ∷ [])
