-- What can be sent of symbols of at most three bits is one of eight phases.
-- Assumes nothing.
use Rattle.std.proofs.Common.{ℕ, ◌+◌, ◌<◌, ◌≤◌, lit<, le-leb}
use Rattle.std.proofs.lemmas.Nat.{mod_below}
use Rattle.sender.specs.Scrambling.{scrambled}
use Rattle.channel.specs.Hearing.{Sendable}

-- a sum modulo 8
pub scrambled_below : (q y v : ℕ) → q ≤ 3 → scrambled q y v < 8
unfolding scrambled
scrambled_below q y v h = rw (le-leb q 3 h) (mod_below (y + v) 8 (lit< tt))

pub sendable_below : (q v index : ℕ) → q ≤ 3 → Sendable q v index → index < 8
sendable_below q v index h s = rw s.2 (scrambled_below q _ v h)
