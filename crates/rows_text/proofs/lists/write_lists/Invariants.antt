use Rattle.std.proofs.Common.{take}
use Rattle.std.specs.Io.KnownBytes.{Appends}
use Rattle.std.specs.List.{flat_map}
use Rattle.rows_text.specs.Lists.{both_lines}
use Rattle.rows_text.proofs.Listed.{of_place, places}
use Rattle.rows_text.proofs.lists.write_lists.Given as goal

-- the places so far are written
abbrev pub invariant-loop-bandwidth : goal.invariant-loop-bandwidth
invariant-loop-bandwidth g l =
    Appends (g.W.Write.contents l.fn.output) (g.W.Write.contents l.output) (flat_map (of_place both_lines) (take l.bandwidth-index places))
