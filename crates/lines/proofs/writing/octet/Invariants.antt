use Rattle.std.proofs.Common.{◌≡◌}
use Rattle.lines.proofs.Written.{filled}
use Rattle.lines.proofs.writing.octet.Given as goal

-- the first i bits are written
abbrev pub invariant-loop-i : goal.invariant-loop-i
invariant-loop-i l = l.number ≡ filled l.bits l.i
