use Rattle.std.specs.Fmt.{HasWritten, IsPlainFormatter}
use Rattle.std.specs.List.{flat_map}
use Rattle.rows_text.specs.Bands.{interleaver_text}
use Rattle.rows_text.proofs.Counted.{first_rows}
use Rattle.rows_text.proofs.waveforms.InterleaversTextDisplay.fmt.Given as goal

-- the interleavers so far are written
abbrev pub invariant-loop-interleaver : goal.invariant-loop-interleaver
invariant-loop-interleaver g l =
    IsPlainFormatter l.initial.f →
    HasWritten g.W.Write.write_str_gives l.initial.f (flat_map interleaver_text (first_rows l.self.bandwidth l.self.waveform l.interleaver)) l.f
