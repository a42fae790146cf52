-- What stands before the rest has set these settings.
use Rattle.std.proofs.Common.{◌≡◌, ℕ, List, ◌++◌, length}
use Rattle.orders.specs.Words.{bytes_of}
use Rattle.orders.specs.Settings.{Sets, OfSending}
use Rattle.orders.proofs.settings.Settings.to_send.Given as goal

abbrev pub invariant-loop-rest : goal.invariant-loop-rest
invariant-loop-rest l = (done : List (List ℕ)) × Sets OfSending done l.settings × (bytes_of l.words ≡ done ++ bytes_of l.rest)

abbrev pub decreases-loop-rest : goal.decreases-loop-rest
decreases-loop-rest l = length l.rest
