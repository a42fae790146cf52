-- Errors of shown blocks against sent ones.
-- Assumes nothing.
use Rattle.std.specs.Prelude.{ℕ, zero, suc, ◌+◌, ◌-◌, ◌^◌, min, cond, List, length, ◌==◌, slice_index}
use Rattle.errors.specs.declared.Count.{Count}

-- at how many of the first n places two blocks differ
abbrev pub differing_below : List ℕ → List ℕ → ℕ → ℕ
differing_below xs ys zero = 0
differing_below xs ys (suc n) = differing_below xs ys n + cond (slice_index xs n == slice_index ys n) 0 1

-- at how many places two blocks differ; a place that only one of them has counts too
abbrev pub differing : List ℕ → List ℕ → ℕ
differing xs ys = differing_below xs ys (min (length xs) (length ys)) + (length xs - length ys) + (length ys - length xs)

-- a sum that stops at the greatest number of 64 bits
abbrev pub added : ℕ → ℕ → ℕ
added n more = min (n + more) (2 ^ 64 - 1)

-- one block more: its bits, its bit errors, and whether it has any
abbrev pub with_block : Count → List ℕ → List ℕ → Count
with_block c sent shown = record {
  blocks = added c.blocks 1;
  bits = added c.bits (length sent);
  bit_errors = added c.bit_errors (differing sent shown);
  block_errors = added c.block_errors (cond (differing sent shown == 0) 0 1);
}
