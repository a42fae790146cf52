-- Where a text of bits has something else.
-- Assumes nothing.
use Rattle.std.specs.Prelude.{◌≡◌, ℕ, List, [], ◌∷◌, ◌++◌}
use Rattle.bits_text.specs.Texts.{Says}
use Rattle.bits_text.specs.Readings.{line_after}
use Rattle.bits_text.specs.declared.stray.Stray.{Stray}

-- the number of the line behind a text whose first line has this number
abbrev pub line_behind : ℕ → List ℕ → ℕ
line_behind line [] = line
line_behind line (c ∷ cs) = line_behind (line_after line c) cs

-- the first byte of a text that is neither a bit nor white space nor of a comment, with the number of its line
pub record StrayIn (text : List ℕ) (stray : Stray) : Type 0 where
  pub before : List ℕ
  pub after : List ℕ
  pub bits : List ℕ
  pub cut : text ≡ before ++ stray.byte ∷ after
  pub said : Says before bits
  pub none : (more : List ℕ) → Says (before ++ stray.byte ∷ []) more → ⊥
  pub line : stray.line ≡ line_behind 1 before
