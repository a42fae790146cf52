use Rattle.std.proofs.Common.{sym, ◌∙◌}
use Rattle.std.proofs.Output.{has_written_of_eq}
use Rattle.bits_text.proofs.Shown.{as_number}
use Rattle.bits_text.proofs.stray.StrayDisplay.fmt.Goals as goal

pub returns-else-is_ascii_graphic-clause-writes : goal.returns-else-is_ascii_graphic-clause-writes
returns-else-is_ascii_graphic-clause-writes g c = λ plain ok.
    let stray = c.args.self.now in
    has_written_of_eq _ _ _ _ _ (as_number stray.line stray.byte (sym c.is_ascii_graphic.ensures.value ∙ c.if-is_ascii_graphic.false)) (c.write-else-is_ascii_graphic.ensures.writes plain ok)
