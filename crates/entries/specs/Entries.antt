-- The line of each entry, by what it writes.
-- Assumes nothing.
use Rattle.std.specs.Prelude.{◌≡◌, ℕ, ◌^◌, ◌<◌, ◌≤◌, List, [], ◌∷◌, length, codes, pos, negsuc, ◌≤ℤ◌}
use Rattle.std.specs.Fmt.{decimal, signed_decimal}
use Rattle.entries.specs.Words.{words}
use Rattle.entries.specs.declared.entry.Entry.{Entry}
use Rattle.entries.specs.declared.entry.Entry.TheVariants.{Hear, Note, Blank, Look}

-- numbers in decimal digits, with a minus sign before a negative one
abbrev pub entry_words : Entry → List (List ℕ)
entry_words (Hear place index weight) = decimal place ∷ decimal index ∷ decimal weight ∷ []
entry_words (Note location value) = codes "note" ∷ decimal location ∷ signed_decimal value ∷ []
entry_words (Blank place) = codes "blank" ∷ decimal place ∷ []
entry_words Look = codes "look" ∷ []

-- a place or a location is below 2^32, an index below 2^8, a weight below 2^16, a value from -32,768 to 32,767
abbrev pub InRange : Entry → Type 0
InRange (Hear place index weight) = (place < 2 ^ 32) × (index < 2 ^ 8) × (weight < 2 ^ 16)
InRange (Note location value) = (location < 2 ^ 32) × (negsuc 32767 ≤ℤ value) × (value ≤ℤ pos 32767)
InRange (Blank place) = place < 2 ^ 32
InRange Look = Unit {0}

-- the line is this entry's, in at most 2,080 characters
pub record Writes (e : Entry) (line : List ℕ) : Type 0 where
  pub in_range : InRange e
  pub written : words line ≡ entry_words e
  pub short : length line ≤ 2080
