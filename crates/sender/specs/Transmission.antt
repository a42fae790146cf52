-- What is sent for a block.
-- Assumes nothing.
use Rattle.std.specs.Prelude.{ℕ, ◌/◌, ◌%◌, Bool, List, map, slice_index}
use Rattle.std.specs.List.{range_with_len}
use Rattle.plan.specs.Scheme.{Scheme, sent_length}
use Rattle.code.specs.Coding.{mother}
use Rattle.code.specs.Sending.{interleaved}
use Rattle.code.specs.Mapping.{symbol_at}
use Rattle.scrambler.specs.Meaning.{Meaning}
use Rattle.sender.specs.Scrambling.{scrambled}

-- how many symbols are sent for a block
abbrev pub symbols : Scheme → ℕ
symbols s = sent_length s / s.bits

-- the scrambler's value for symbol i: it starts again with every frame
abbrev pub value_for : Scheme → Meaning → ℕ → ℕ
value_for s m i = slice_index m.values (i % s.frame)

-- the on-air index of symbol i of an interleaver array
unfoldable pub index_at : Scheme → Meaning → List Bool → ℕ → ℕ
index_at s m array i = scrambled s.bits (symbol_at s array i) (value_for s m i)

-- the interleaver array of a block
abbrev pub sent_array : Scheme → (ℕ → Bool) → List Bool
sent_array s u = interleaved s (mother s u)

-- symbol i of a block, before it is scrambled
abbrev pub symbol : Scheme → (ℕ → Bool) → ℕ → ℕ
symbol s u i = symbol_at s (sent_array s u) i

-- the on-air index of symbol i of a block
abbrev pub on_air : Scheme → Meaning → (ℕ → Bool) → ℕ → ℕ
on_air s m u i = index_at s m (sent_array s u) i

-- the on-air indices of a block
unfoldable pub transmission : Scheme → Meaning → (ℕ → Bool) → List ℕ
transmission s m u = map (on_air s m u) (range_with_len 0 (symbols s))
