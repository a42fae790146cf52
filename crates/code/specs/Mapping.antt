-- From the interleaver array to symbols, and back to bits.
-- Assumes nothing.
use Rattle.std.specs.Prelude.{ℕ, ◌*◌, ◌^◌, Bool, cond, List, [], ◌∷◌, Some, None, Option, ◌==◌, nat_le, nat_lt, slice_index}
use Rattle.std.specs.List.{position_from}
use Rattle.plan.specs.Scheme.{Scheme}
use Rattle.code.specs.Numbers.{num, read}

-- the symbols of 1, 2 or 3 bits, in the order of the numbers that the bits write
abbrev pub phases : ℕ → List ℕ
phases q = cond (q == 1) (0 ∷ 4 ∷ []) (cond (q == 2) (0 ∷ 2 ∷ 6 ∷ 4 ∷ []) (1 ∷ 0 ∷ 2 ∷ 3 ∷ 6 ∷ 7 ∷ 5 ∷ 4 ∷ []))

-- the symbol of q bits that write the number x
unfoldable pub symbol_of : ℕ → ℕ → ℕ
symbol_of q x = cond (nat_le q 3) (slice_index (phases q) x) x

-- the first place at which y stands, the list's first place being i
abbrev pub place_from : ℕ → ℕ → List ℕ → Option ℕ
place_from y = position_from (λ x. x == y)

-- the number that a symbol's bits write, or none where no bits give this symbol
unfoldable pub number_of : ℕ → ℕ → Option ℕ
number_of q y = cond (nat_le q 3) (place_from y 0 (phases q)) (cond (nat_lt y (2 ^ q)) (Some y) None)

-- symbol i takes q locations of the array, the first fetched on the left
unfoldable pub symbol_at : Scheme → List Bool → ℕ → ℕ
symbol_at s array i = symbol_of s.bits (num (read array) s.bits (i * s.bits))
