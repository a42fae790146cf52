-- What the sender's buffers hold is the block's own array.
-- Assumes nothing.
use Rattle.std.proofs.Common.{◌≡◌, ℕ, zero, suc, ◌+◌, ◌*◌, ◌/◌, ◌%◌, ◌<◌, ◌≤◌, Bool, false, List, ◌++◌, map, length, get_or, drop, set, replicate, refl, ap, ◌∙◌, zero-add, arith}
use Rattle.std.specs.List.{range_with_len}
use Rattle.std.proofs.lemmas.Nat.{div_below, mod_below}
use Rattle.std.proofs.lemmas.List.FromFn.{length-map-range_with_len, get_or-map-range_with_len}
use Rattle.std.proofs.lemmas.List.{get_or_append_left, drop_all, append-nil}
use Rattle.plan.specs.Scheme.{Scheme, sent_length}
use Rattle.plan.proofs.Facts.{Facts}
use Rattle.code.specs.Coding.{mother, word}
use Rattle.code.specs.Numbers.{read}
use Rattle.code.specs.Sending.{source, location, loads, interleaved}
use Rattle.code.proofs.Loading.{entry_below, place_below}
use Rattle.scrambler.specs.Meaning.{Meaning}
use Rattle.sender.specs.Transmission.{symbols, index_at, sent_array, transmission}

module _ (s : Scheme) (known : Facts s) where
  -- every sent bit comes from the code word
  source_below : (n : ℕ) → n < sent_length s → source s n < 2 * s.block
  source_below n h =
      let runs = length s.entries in
      place_below s known (n / runs) (get_or s.entries (n % runs) 0)
      (div_below n runs (s.block / s.period) known.entries_low h)
      (entry_below s known (n % runs) (mod_below n runs known.entries_low))

  -- so the array rests on the bits of the code word alone
  loads_same : (c d : ℕ → Bool) → ((i : ℕ) → i < 2 * s.block → c i ≡ d i) → (array : List Bool) (count : ℕ) → count ≤ sent_length s → loads s c array 0 count ≡ loads s d array 0 count
  loads_same c d e array zero h = refl
  loads_same c d e array (suc count) h =
      let within : 0 + count < sent_length s = omega arith in
      λ i. set (loads_same c d e array count (omega arith) i) (location s (0 + count)) (e (source s (0 + count)) (source_below (0 + count) within) i)

  word_read : (u : ℕ → Bool) (rest : List Bool) (i : ℕ) → i < 2 * s.block → read (word s u ++ rest) i ≡ mother s u i
  word_read u rest i h =
      let long = length-map-range_with_len (mother s u) 0 (2 * s.block) in
      get_or_append_left (word s u) rest false i (omega (arith, long)) ∙ get_or-map-range_with_len (mother s u) 0 (2 * s.block) i i false h (zero-add i)

  -- the array of a code word is that of its block, where the buffer has the array's length
  pub array_of : (u : ℕ → Bool) (bits array old rest : List Bool) → bits ≡ word s u ++ rest → length old ≡ sent_length s → array ≡ interleaved s (read bits) ++ drop (sent_length s) old → array ≡ sent_array s u
  unfolding interleaved
  array_of u bits array old rest e long is =
      is ∙ ap (λ l. interleaved s (read bits) ++ l) (drop_all (sent_length s) old (omega arith)) ∙ append-nil (interleaved s (read bits))
      ∙ ap (λ l. interleaved s (read l)) e
      ∙ loads_same (read (word s u ++ rest)) (mother s u) (word_read u rest) (replicate (sent_length s) false) (sent_length s) (omega arith)

-- the on-air indices of a block's array are its transmission
pub transmitted : (s : Scheme) (m n : Meaning) (u : ℕ → Bool) (array : List Bool) (out rest : List ℕ) → array ≡ sent_array s u → n ≡ m →
    out ≡ map (index_at s n array) (range_with_len 0 (symbols s)) ++ rest → out ≡ transmission s m u ++ rest
unfolding transmission
transmitted s m n u array out rest e k is = is ∙ (λ i. map (index_at s (k i) (e i)) (range_with_len 0 (symbols s)) ++ rest)
