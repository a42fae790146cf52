-- What is said where something goes wrong.
-- Assumes nothing.
use Rattle.std.specs.Prelude.{ℕ, List, ◌++◌, codes}
use Rattle.curve.specs.declared.trouble.Slip.{Slip}
use Rattle.curve.specs.declared.trouble.Slip.TheVariants.{Word, Count, Number, Nothing}

-- a word that should be the number of this name
abbrev pub no_number : List ℕ → List ℕ
no_number name = codes "the " ++ (name ++ codes " is not a whole number, or too great")

-- what is wrong with the arguments
abbrev pub slip_sentence : Slip → List ℕ
slip_sentence Word = codes "there is no such word or option"
slip_sentence Count = codes "a row takes four numbers"
slip_sentence (Number name) = no_number name.now
slip_sentence Nothing = codes "there is no ratio or no block to run"
