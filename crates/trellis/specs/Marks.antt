-- Marks kept one to a bit, and a block written over a memory.
-- Assumes nothing.
use Rattle.std.specs.Prelude.{ℕ, zero, suc, ◌+◌, ◌*◌, ◌/◌, ◌%◌, ◌^◌, Bool, cond, ◌&&◌, List, ◌==◌, slice_index, slice_set}
use Rattle.code.specs.Numbers.{digit}

-- bit i of a byte, the lowest first
abbrev pub lit : ℕ → ℕ → Bool
lit byte i = byte / 2 ^ i % 2 == 1

-- the byte that holds the marks of time t and the eight states from 8 * group on
abbrev pub mark_place : ℕ → ℕ → ℕ → ℕ
mark_place m t group = t * (2 ^ m / 8) + group

-- the mark of time t and state s
unfoldable pub marked : ℕ → List ℕ → ℕ → ℕ → Bool
marked m bytes t s = lit (slice_index bytes (mark_place m t (s / 8))) (s % 8)

-- the marks of time t and the eight states from 8 * group on become a byte's bits; every other mark stays
abbrev pub with_eight : ℕ → ℕ → ℕ → (ℕ → ℕ → Bool) → ℕ → ℕ → Bool
with_eight t group byte marks i s = cond (i == t && s / 8 == group) (lit byte (s % 8)) (marks i s)

-- a memory whose first n bytes are a block's bits; the rest stays
unfoldable pub overwritten : ℕ → (ℕ → Bool) → List ℕ → List ℕ
overwritten zero u bytes = bytes
overwritten (suc n) u bytes = slice_set (overwritten n u bytes) n (digit (u n))
