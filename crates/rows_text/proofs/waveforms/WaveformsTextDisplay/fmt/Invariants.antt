use Rattle.std.proofs.Common.{◌-◌}
use Rattle.std.specs.Fmt.{HasWritten, IsPlainFormatter}
use Rattle.std.specs.List.{range_with_len, flat_map}
use Rattle.rows_text.specs.Columns.{waveform_rows}
use Rattle.rows_text.specs.Bands.{waveform_line}
use Rattle.rows_text.proofs.waveforms.WaveformsTextDisplay.fmt.Given as goal

-- the waveforms so far are written
abbrev pub invariant-loop-waveform : goal.invariant-loop-waveform
invariant-loop-waveform g l =
    IsPlainFormatter l.initial.f →
    HasWritten g.W.Write.write_str_gives l.initial.f
    (flat_map (λ w. waveform_line w (waveform_rows l.self.bandwidth w)) (range_with_len 1 (l.waveform - 1))) l.f
