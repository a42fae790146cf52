use Rattle.std.proofs.Common.{◌≡◌, ◌+◌, ◌*◌, ◌≤◌, ◌++◌, length, vec_items, vec_len, vec_capacity}
use Rattle.lines.specs.Hex.{hex, Bytes}
use Rattle.lines.proofs.hex.read_hex.Given as goal

-- the digits of the bytes so far, and what is left, are the text; what is left has room
abbrev pub invariant-loop-rest : goal.invariant-loop-rest
invariant-loop-rest l = Bytes (vec_items l.bytes) × (hex (vec_items l.bytes) ++ l.rest ≡ l.text) × (length l.rest + 2 * vec_len l.bytes ≤ 2 * vec_capacity l.bytes)

abbrev pub decreases-loop-rest : goal.decreases-loop-rest
decreases-loop-rest l = length l.rest
