use Rattle.std.specs.Io.KnownBytes.{Appends}
use Rattle.std.specs.List.{flat_map, range_with_len}
use Rattle.laboratory.specs.Listing.{line_at}
use Rattle.laboratory.proofs.listing.write_interleavers.Given as goal

-- the lines of the interleavers so far are written
abbrev pub invariant-loop-interleaver : goal.invariant-loop-interleaver
invariant-loop-interleaver g l = Appends (g.W.Write.contents l.fn.output) (g.W.Write.contents l.output) (flat_map (line_at l.bandwidth l.waveform) (range_with_len 0 l.interleaver))
