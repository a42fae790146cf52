-- The blocks of a text: the bits of each line that has any.
-- Assumes nothing.
use Rattle.std.specs.Prelude.{ℕ, ◌-◌, cond, false, List, [], ◌∷◌, ◌++◌, map, length, ◌==◌}
use Rattle.bits_text.specs.Texts.{marks}

-- the bits of a line's digits
abbrev pub line_bits : List ℕ → List ℕ
line_bits line = map (λ d. d - 48) (marks false line)

-- a line's block, where it has bits
abbrev pub line_block : List ℕ → List (List ℕ)
line_block line = cond (length (line_bits line) == 0) [] (line_bits line ∷ [])

-- the blocks of a text whose first line goes on from some bytes
abbrev pub blocks_from : List ℕ → List ℕ → List (List ℕ)
blocks_from line [] = line_block line
blocks_from line (c ∷ cs) = cond (c == 10) (line_block line ++ blocks_from [] cs) (blocks_from (line ++ c ∷ []) cs)

-- a line feed ends each line but perhaps the last
abbrev pub blocks : List ℕ → List (List ℕ)
blocks text = blocks_from [] text
