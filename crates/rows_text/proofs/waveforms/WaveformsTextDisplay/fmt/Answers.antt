use Rattle.std.proofs.Common.{rules, ◌≡◌, ◌+◌, ◌-◌, ap, ◌∙◌, arith}
use Rattle.std.proofs.Output.{has_written_append, has_written_of_eq}
use Rattle.std.specs.List.{range_with_len, flat_map}
use Rattle.rows_text.specs.Columns.{waveform_rows}
use Rattle.rows_text.specs.Bands.{waveform_line}
use Rattle.rows_text.proofs.Counted.{from_1}
use Rattle.rows_text.proofs.Shown.{lines_all}
use Rattle.rows_text.proofs.waveforms.WaveformsTextDisplay.fmt.Goals as goal

pub loop-waveform-preserved : goal.loop-waveform-preserved
loop-waveform-preserved g c = λ plain.
    let b = c.args.self.now.bandwidth in
    let w = c.loop-waveform.waveform in
    has_written_of_eq _ _ _ _ _ (from_1 (λ w. waveform_line w (waveform_rows b w)) w c.loop-waveform.auto.waveform)
    (has_written_append _ _ _ _ _ _ (c.loop-waveform.invariant plain) (search rules))

pub returns-clause-writes : goal.returns-clause-writes
returns-clause-writes g c = λ plain ok.
    let b = c.args.self.now.bandwidth in
    let done : c.loop-waveform.waveform ≡ 14 = search rules in
    has_written_of_eq _ _ _ _ _ (ap (λ n. flat_map (λ w. waveform_line w (waveform_rows b w)) (range_with_len 1 (n - 1))) done ∙ lines_all b)
    (c.loop-waveform.invariant plain)
