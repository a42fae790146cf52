-- A line is that of one command.
-- Assumes nothing.
use Rattle.std.specs.Prelude.{◌≡◌, ℕ, List}
use Rattle.lines.specs.Commands.{kind, fields, Writes}
use Rattle.lines.specs.declared.command.Command.{Command}

-- two commands with the same line have the same first character and the same fields
abbrev pub OneReading : Type 0
OneReading = (line : List ℕ) (c d : Command) → Writes c line → Writes d line → (kind c ≡ kind d) × (fields c ≡ fields d)
