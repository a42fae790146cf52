-- The words of a line.
-- Assumes nothing.
use Rattle.std.specs.Prelude.{ℕ, Bool, false, cond, ◌&&◌, ◌||◌, List, [], ◌∷◌, ◌++◌, length, ◌==◌, nat_le}

-- white space: space, tab, line feed, form feed, carriage return
abbrev pub white : ℕ → Bool
white b = b == 32 || b == 9 || b == 10 || b == 12 || b == 13

-- a word before the words after it; no bytes are no word
abbrev pub closed : List ℕ → List (List ℕ) → List (List ℕ)
closed [] more = more
closed (b ∷ word) more = (b ∷ word) ∷ more

-- the words of a text, of which the first goes on from these bytes
abbrev pub words_from : List ℕ → List ℕ → List (List ℕ)
words_from begun [] = closed begun []
words_from begun (b ∷ text) = cond (white b) (closed begun (words_from [] text)) (words_from (begun ++ (b ∷ [])) text)

-- what white space parts
abbrev pub words : List ℕ → List (List ℕ)
words text = words_from [] text

-- a word that can begin a number: 0 alone, or first a digit from 1 to 9
abbrev pub canonical : List ℕ → Bool
canonical [] = false
canonical (c ∷ more) = (c == 48 && length more == 0) || (nat_le 49 c && nat_le c 57)
