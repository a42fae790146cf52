-- What is said of a byte that is no bit.
-- Assumes nothing.
use Rattle.std.specs.Prelude.{ℕ, cond, ◌&&◌, List, [], ◌∷◌, ◌++◌, codes, nat_le}
use Rattle.std.specs.Fmt.{decimal}
use Rattle.bits_text.specs.declared.stray.Stray.{Stray}

-- a byte that has a printed form stands between quotes, any other as its number
abbrev pub shown : ℕ → List ℕ
shown byte = cond (nat_le 33 byte && nat_le byte 126) (39 ∷ byte ∷ 39 ∷ []) (codes "the byte " ++ decimal byte)

-- its line, and what it is
abbrev pub stray_text : Stray → List ℕ
stray_text s = codes "line " ++ (decimal s.line ++ (codes ": " ++ (shown s.byte ++ codes " is no bit")))
