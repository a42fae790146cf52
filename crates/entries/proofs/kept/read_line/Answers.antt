use Rattle.std.proofs.Common.{◌∙◌, subst}
use Rattle.entries.specs.Readings.{LineReading}
use Rattle.entries.proofs.Cut.{reading_whole}
use Rattle.entries.proofs.kept.read_line.Goals as goal

pub returns : goal.returns
returns c whole kept = reading_whole whole c.read_entry.result (subst (λ l. LineReading l c.read_entry.result) (c.bytes.ensures ∙ kept) c.read_entry.ensures)
