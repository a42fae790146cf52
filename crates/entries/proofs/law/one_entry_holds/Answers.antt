use Rattle.entries.proofs.Lined.{each_has_a_line}
use Rattle.entries.proofs.Single.{one_entry, no_idle_entry}
use Rattle.entries.proofs.law.one_entry_holds.Goals as goal

pub returns : goal.returns
returns c = record { one = one_entry; idle = no_idle_entry; some = each_has_a_line }
