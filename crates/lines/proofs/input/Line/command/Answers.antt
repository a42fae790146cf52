use Rattle.std.proofs.Common.{◌∙◌, subst}
use Rattle.lines.specs.Readings.{LineReading}
use Rattle.lines.proofs.Keeping.{reading_whole}
use Rattle.lines.proofs.input.Line.command.Goals as goal

pub returns : goal.returns
returns c = λ line e. reading_whole line c.parse.result (subst (λ l. LineReading l c.parse.result) (c.as_slice.ensures.value ∙ e) c.parse.ensures)
