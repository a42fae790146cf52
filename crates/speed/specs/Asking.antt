-- What the words of a command line ask for.
-- Assumes nothing.
use Rattle.std.specs.Prelude.{◌≡◌, ℕ, List, [], ◌∷◌, map, codes, string_bytes, String}
use Rattle.std.specs.Str.Parse.{IsNumeral, digits_value, without_leading_plus}
use Rattle.std.specs.declared.alloc.Global.{Global}
use Rattle.speed.specs.declared.request.Batch.{Batch}
use Rattle.speed.specs.declared.request.Request.{Request}
use Rattle.speed.specs.declared.request.Request.TheVariants.{Fixed, Kinds, Growth, Blocks, Looks}

-- the word has this number's digits, perhaps behind a plus sign
abbrev pub Number : List ℕ → ℕ → Type 0
Number word n = IsNumeral 10 (without_leading_plus word) × (digits_value 10 (without_leading_plus word) ≡ n)

-- five words name a batch: constraint length, bits of a block, decibels, blocks and seed
abbrev pub Names : List (List ℕ) → Batch → Type 0
Names ws b =
    (constraint : List ℕ) × (block : List ℕ) × (decibels : List ℕ) × (blocks : List ℕ) × (seed : List ℕ)
    × (ws ≡ constraint ∷ block ∷ decibels ∷ blocks ∷ seed ∷ [])
    × Number constraint b.constraint × Number block b.block_length × Number blocks b.blocks × Number seed b.seed

abbrev pub bytes_of : List (String Global) → List (List ℕ)
bytes_of ws = map string_bytes ws

-- no word asks for the fixed blocks; else the first word says what is asked for
abbrev pub Asks : List (List ℕ) → Request → Type 0
Asks ws Fixed = ws ≡ []
Asks ws Kinds = (rest : List (List ℕ)) × (ws ≡ codes "time" ∷ rest)
Asks ws Growth = (rest : List (List ℕ)) × (ws ≡ codes "growth" ∷ rest)
Asks ws (Blocks b) = (rest : List (List ℕ)) × (ws ≡ codes "blocks" ∷ rest) × Names rest b
Asks ws (Looks b) = (rest : List (List ℕ)) × (ws ≡ codes "looks" ∷ rest) × Names rest b
