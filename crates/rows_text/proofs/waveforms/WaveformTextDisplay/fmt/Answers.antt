use Rattle.std.proofs.Common.{rules, sym, ◌∙◌}
use Rattle.std.proofs.Output.{has_written_of_eq}
use Rattle.rows_text.proofs.Shown.{line_shown, dash_shown}
use Rattle.rows_text.proofs.waveforms.WaveformTextDisplay.fmt.Goals as goal

pub returns-in_default-clause-writes : goal.returns-in_default-clause-writes
returns-in_default-clause-writes g c = λ plain ok.
    let s = c.args.self.now in
    has_written_of_eq _ _ _ _ _ (dash_shown s.bandwidth s.waveform (sym c.in_default.is ∙ c.entry.ensures.value)) (search rules)

pub returns-clause-writes : goal.returns-clause-writes
returns-clause-writes g c = λ plain ok.
    let s = c.args.self.now in
    has_written_of_eq _ _ _ _ _ (line_shown s.bandwidth s.waveform c.in-Some.field-0 (sym c.in-Some.is ∙ c.entry.ensures.value)) (search rules)
