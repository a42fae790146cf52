-- From the code word to the interleaver array: puncturing and repeats by the send list, then loading.
-- Assumes nothing.
use Rattle.std.specs.Prelude.{ℕ, zero, suc, ◌+◌, ◌*◌, ◌/◌, ◌%◌, Bool, false, List, length, replicate, slice_index, slice_set}
use Rattle.plan.specs.Scheme.{Scheme, sent_length}

-- the place in the code word of sent bit n: run n / M of the send list, entry n % M
abbrev pub source : Scheme → ℕ → ℕ
source s n = 2 * s.period * (n / length s.entries) + slice_index s.entries (n % length s.entries)

-- the location at which sent bit n is loaded
unfoldable pub location : Scheme → ℕ → ℕ
location s n = (n * s.increment) % sent_length s

-- an array once count sent bits of the code word c, from bit n on, are loaded into it
abbrev pub loads : Scheme → (ℕ → Bool) → List Bool → ℕ → ℕ → List Bool
loads s c array n zero = array
loads s c array n (suc count) = slice_set (loads s c array n count) (location s (n + count)) (c (source s (n + count)))

-- the interleaver array with every sent bit loaded
unfoldable pub interleaved : Scheme → (ℕ → Bool) → List Bool
interleaved s c = loads s c (replicate (sent_length s) false) 0 (sent_length s)
