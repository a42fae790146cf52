-- What reading a line answers.
-- Assumes nothing.
use Rattle.std.specs.Prelude.{◌≡◌, ℕ, ◌≤◌, List, [], ◌∷◌, length, Some, None, Ok, Err, Option, Result, slice_index}
use Rattle.lines.specs.declared.fault.LineFault.{LineFault}
use Rattle.lines.specs.declared.fault.LineFault.TheVariants.{Form}
use Rattle.entries.specs.Entries.{InRange, entry_words, Writes}
use Rattle.entries.specs.Words.{words}
use Rattle.entries.specs.declared.entry.Entry.{Entry}

-- the words are this entry's
abbrev pub Named : List (List ℕ) → Entry → Type 0
Named ws e = InRange e × (ws ≡ entry_words e)

-- the entry whose words these are, or none where they are no entry's
abbrev pub EntryReading : List (List ℕ) → Option Entry → Type 0
EntryReading ws (Some e) = Named ws e
EntryReading ws None = (e : Entry) → InRange e → ws ≡ entry_words e → ⊥

-- no word, or a first word that begins with '#'
abbrev pub Remarks : List (List ℕ) → Type 0
Remarks [] = Unit {0}
Remarks (word ∷ more) = slice_index word 0 ≡ 35

-- a line without an entry: empty, or a comment
pub record Idle (line : List ℕ) : Type 0 where
  pub remarks : Remarks (words line)
  pub short : length line ≤ 2080

-- the entry whose line it is, or none where there is nothing to do; any other line is refused for its form
abbrev pub LineReading : List ℕ → Result (Option Entry) LineFault → Type 0
LineReading line (Ok (Some e)) = Writes e line
LineReading line (Ok None) = Idle line
LineReading line (Err fault) = (fault ≡ Form) × ((e : Entry) → Writes e line → ⊥) × (Idle line → ⊥)
