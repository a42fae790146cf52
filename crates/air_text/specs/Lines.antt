-- The lines of a block on the air.
-- Assumes nothing.
use Rattle.std.specs.Prelude.{ℕ, ◌+◌, List, [], ◌∷◌, ◌++◌, codes}
use Rattle.std.specs.Fmt.{decimal}

-- the place, a blank, the index
abbrev pub place_line : ℕ → ℕ → List ℕ
place_line place index = decimal place ++ (32 ∷ (decimal index ++ (10 ∷ [])))

-- a line for each index; places count on
abbrev pub place_lines : ℕ → List ℕ → List ℕ
place_lines place [] = []
place_lines place (index ∷ indices) = place_line place index ++ place_lines (place + 1) indices

-- a comment with the block's number, and then its places from 0
abbrev pub air_text : ℕ → List ℕ → List ℕ
air_text block indices = codes "# block " ++ (decimal block ++ (10 ∷ place_lines 0 indices))
