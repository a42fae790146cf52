use Rattle.std.proofs.Common.{◌≡◌, ◌-◌}
use Rattle.std.specs.List.{range_with_len, flat_map}
use Rattle.rows_text.specs.Columns.{waveform_rows, sums, stopped}
use Rattle.rows_text.proofs.sums.Sums.of.Given as goal

-- the waveforms so far are added
abbrev pub invariant-loop-waveform : goal.invariant-loop-waveform
invariant-loop-waveform l = l.sums ≡ stopped (sums (flat_map (waveform_rows l.bandwidth) (range_with_len 1 (l.waveform - 1))))
