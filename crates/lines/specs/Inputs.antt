-- What is kept of a line of input.
-- Assumes nothing.
use Rattle.std.specs.Prelude.{ℕ, List, take}

-- enough to see whether it is too long
abbrev pub kept_of : List ℕ → List ℕ
kept_of line = take 2081 line
