use Rattle.std.proofs.Common.{◌++◌}
use Rattle.std.specs.Io.KnownBytes.{Appends}
use Rattle.std.specs.List.{flat_map, range_with_len}
use Rattle.laboratory.specs.Listing.{heading, bandwidth_lines}
use Rattle.laboratory.proofs.listing.write_rows.Given as goal

-- the heading and the lines of the bandwidths so far are written
abbrev pub invariant-loop-bandwidth : goal.invariant-loop-bandwidth
invariant-loop-bandwidth g l = Appends (g.W.Write.contents l.fn.output) (g.W.Write.contents l.output) (heading ++ flat_map bandwidth_lines (range_with_len 0 l.bandwidth))
