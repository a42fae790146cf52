-- The lines of a text, read one after the other.
-- Assumes nothing.
use Rattle.std.specs.Prelude.{◌≡◌, ℕ, Bool, true, false, cond, List, [], ◌∷◌, ◌++◌, length, Some, Ok, Err, Option, Result, ◌==◌, if◌then◌else◌}
use Rattle.std.specs.Io.Iter.{bytes_remaining}
use Rattle.lines.specs.Inputs.{kept_of}
use Rattle.lines.specs.declared.stream.Lines.{Lines}

-- the lines of a text, of which the first goes on from these bytes: a line feed ends each, and the last may lack it
abbrev pub lines_from : List ℕ → List ℕ → List (List ℕ)
lines_from begun [] = cond (length begun == 0) [] (begun ∷ [])
lines_from begun (b ∷ text) = cond (b == 10) (begun ∷ lines_from [] text) (lines_from (begun ++ (b ∷ [])) text)

-- what line feeds part
abbrev pub lines_of : List ℕ → List (List ℕ)
lines_of text = lines_from [] text

-- the bytes that are still to come, where they are known
abbrev pub left : {R : Type 0} → (R → Option (List ℕ)) → Lines R → Option (List ℕ)
left remaining x = if x.ended then Some [] else bytes_remaining remaining x.bytes

-- a line is kept, the next of the text where this is known, and those behind it are still to come
abbrev pub KeptNext : Option (List ℕ) → Option (List ℕ) → List ℕ → Type 0
KeptNext old new kept = (line : List ℕ) × (kept ≡ kept_of line) × ((text : List ℕ) → old ≡ Some text → (rest : List ℕ) × (new ≡ Some rest) × (lines_of text ≡ line ∷ lines_of rest))

-- going on up to a line feed, or to the end of the text, where what is kept may be a last line
abbrev pub Filled : {E : Type 0} → Option (List ℕ) → Option (List ℕ) → List ℕ → Result Bool E → Type 0
Filled old new kept (Ok true) = KeptNext old new kept
Filled old new kept (Ok false) = (line : List ℕ) × (kept ≡ kept_of line) × ((text : List ℕ) → old ≡ Some text → lines_of text ≡ lines_from line [])
Filled old new kept (Err e) = Unit {0}

-- the next line, or none
abbrev pub NextLine : {E : Type 0} → Option (List ℕ) → Option (List ℕ) → List ℕ → Result Bool E → Type 0
NextLine old new kept (Ok true) = KeptNext old new kept
NextLine old new kept (Ok false) = (text : List ℕ) → old ≡ Some text → lines_of text ≡ []
NextLine old new kept (Err e) = Unit {0}
