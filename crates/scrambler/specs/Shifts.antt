-- The register of nine bits with the polynomial x^9 + x^4 + 1.
-- Assumes nothing.
use Rattle.std.specs.Prelude.{◌≡◌, ℕ, zero, suc, ◌+◌, ◌*◌, ◌/◌, ◌%◌, ◌^◌, ◌≤◌, List, map}
use Rattle.std.specs.List.{range_with_len}

-- bit i of the register, bit 0 the rightmost
abbrev pub bit : ℕ → ℕ → ℕ
bit i r = r / 2 ^ i % 2

-- the bit that a shift brings in: the sum modulo 2 of bits 8 and 4
abbrev pub fresh : ℕ → ℕ
fresh r = (bit 8 r + bit 4 r) % 2

-- a shift to the left by one: the fresh bit enters at bit 0, and nine bits are kept
abbrev pub shift : ℕ → ℕ
shift r = (2 * r + fresh r) % 512

-- n shifts
unfoldable pub shifts : ℕ → ℕ → ℕ
shifts zero r = r
shifts (suc n) r = shift (shifts n r)

-- the register after n shifts, loaded with 1
abbrev pub state_after : ℕ → ℕ
state_after n = shifts n 1

-- the value at a place: the rightmost bits, after one shift for each bit of the values before
abbrev pub drawn : ℕ → ℕ → ℕ
drawn width place = state_after (place * width) % 2 ^ width

-- the values at 4,096 places
unfoldable pub drawn_values : ℕ → List ℕ
drawn_values width = map (drawn width) (range_with_len 0 4096)

-- the first value is 1, whatever the width
abbrev pub StartsWithOne : Type 0
StartsWithOne = (width : ℕ) → 1 ≤ width → drawn width 0 ≡ 1

-- the newest bit after n shifts: the loaded 1, and then the bits that entered
abbrev pub newest : ℕ → ℕ
newest n = bit 0 (state_after n)

-- the bits obey the polynomial: each is the sum modulo 2 of those nine and five before it
abbrev pub ObeysPolynomial : Type 0
ObeysPolynomial = (n : ℕ) → newest (n + 9) ≡ (newest n + newest (n + 4)) % 2

-- two states are the same exactly where their counts of shifts are the same modulo 511: the period is 511 and no less
abbrev pub HasPeriod511 : Type 0
HasPeriod511 = (m n : ℕ) → (state_after m ≡ state_after n → m % 511 ≡ n % 511) × (m % 511 ≡ n % 511 → state_after m ≡ state_after n)
