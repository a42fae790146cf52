use Rattle.std.proofs.Common.{◌++◌, take}
use Rattle.std.specs.Prelude.{codes}
use Rattle.std.specs.Io.KnownBytes.{Appends}
use Rattle.std.specs.List.{flat_map}
use Rattle.laboratory.proofs.Listed.{entry_text}
use Rattle.laboratory.proofs.listing.write_list.Given as goal

-- the entries so far are written
abbrev pub invariant-loop-entry : goal.invariant-loop-entry
invariant-loop-entry g l =
    Appends (g.W.Write.contents l.fn.output) (g.W.Write.contents l.output) (codes "send_list" ++ flat_map entry_text (take l.entry-index l.fn.plan.parts.send_list.items))
