use Rattle.std.specs.Io.KnownBytes.{Appends}
use Rattle.std.specs.List.{range_with_len, flat_map}
use Rattle.rows_text.specs.Bands.{band_part}
use Rattle.rows_text.proofs.bands.write_bands.Given as goal

-- the bandwidths so far are written
abbrev pub invariant-loop-bandwidth : goal.invariant-loop-bandwidth
invariant-loop-bandwidth g l =
    Appends (g.W.Write.contents l.fn.output) (g.W.Write.contents l.output) (flat_map band_part (range_with_len 0 l.bandwidth))
