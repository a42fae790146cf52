use Rattle.std.specs.Io.KnownBytes.{Appends}
use Rattle.std.specs.List.{flat_map, range_with_len}
use Rattle.laboratory.specs.Listing.{waveform_lines}
use Rattle.laboratory.proofs.listing.write_waveforms.Given as goal

-- the lines of the waveforms so far are written
abbrev pub invariant-loop-waveform : goal.invariant-loop-waveform
invariant-loop-waveform g l = Appends (g.W.Write.contents l.fn.output) (g.W.Write.contents l.output) (flat_map (waveform_lines l.bandwidth) (range_with_len 0 l.waveform))
