-- Reading a text of bits.
-- Assumes nothing.
use Rattle.std.specs.Prelude.{◌≡◌, ℕ, ◌+◌, ◌-◌, ◌^◌, min, cond, false, List, [], ◌∷◌, ◌++◌, Some, None, Ok, Err, Option, Result, ◌==◌}
use Rattle.bits_text.specs.Texts.{ends_inside, Says}
use Rattle.bits_text.specs.declared.reader.BitsReader.{BitsReader}
use Rattle.bits_text.specs.declared.stray.Stray.{Stray}

-- the reader stands behind this text, which begins where a line does
pub record At (r : BitsReader) (text : List ℕ) : Type 0 where
  pub comment : r.in_comment ≡ ends_inside false text

-- the number of the line behind a byte, in 64 bits
abbrev pub line_after : ℕ → ℕ → ℕ
line_after line byte = cond (byte == 10) (min (line + 1) (2 ^ 64 - 1)) line

-- what one byte more of a text that says some bits does: a bit more, or none, or it is refused with its line where
-- with it the text says no bits at all; then the reader stays
abbrev pub Taken : BitsReader → List ℕ → List ℕ → ℕ → BitsReader → Result (Option ℕ) Stray → Type 0
Taken old text bits byte new (Ok (Some b)) = At new (text ++ byte ∷ []) × Says (text ++ byte ∷ []) (bits ++ b ∷ [])
Taken old text bits byte new (Ok None) = At new (text ++ byte ∷ []) × Says (text ++ byte ∷ []) bits
Taken old text bits byte new (Err e) =
    (new ≡ old) × (e ≡ record { line = old.line; byte = byte }) × ((more : List ℕ) → Says (text ++ byte ∷ []) more → ⊥)
