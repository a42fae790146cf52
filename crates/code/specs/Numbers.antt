-- Bits and the numbers that they write.
-- Assumes nothing.
use Rattle.std.specs.Prelude.{ℕ, zero, suc, ◌+◌, ◌-◌, ◌*◌, ◌/◌, ◌%◌, ◌^◌, Bool, false, cond, List, ◌==◌, slice_index, slice_index_or}

-- a bit as a number
abbrev pub digit : Bool → ℕ
digit b = cond b 1 0

-- n bits from place t on as a number, the first highest
abbrev pub num : (ℕ → Bool) → ℕ → ℕ → ℕ
num f zero t = 0
num f (suc n) t = 2 * num f n t + digit (f (t + n))

-- bit i of a number of n bits, the first highest
abbrev pub bit_of : ℕ → ℕ → ℕ → Bool
bit_of n x i = x / 2 ^ (n - 1 - i) % 2 == 1

-- a block's bits, one to a byte
abbrev pub bits_of : List ℕ → ℕ → Bool
bits_of block i = slice_index block i == 1

-- what stands at each place of a list of bits
abbrev pub read : List Bool → ℕ → Bool
read bits i = slice_index_or bits i false
