-- A line is that of one entry, and each entry has one.
-- Assumes nothing.
use Rattle.std.specs.Prelude.{◌≡◌, ℕ, List}
use Rattle.entries.specs.Entries.{InRange, Writes}
use Rattle.entries.specs.Readings.{Idle}
use Rattle.entries.specs.declared.entry.Entry.{Entry}

-- two entries with the same line are the same
abbrev pub OneEntry : Type 0
OneEntry = (line : List ℕ) (d e : Entry) → Writes d line → Writes e line → d ≡ e

-- no entry's line is empty or a comment
abbrev pub NoIdleEntry : Type 0
NoIdleEntry = (line : List ℕ) (e : Entry) → Writes e line → Idle line → ⊥

-- each entry in range has a line
abbrev pub EachHasALine : Type 0
EachHasALine = (e : Entry) → InRange e → (line : List ℕ) × Writes e line
