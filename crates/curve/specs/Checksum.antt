-- The CRC-32 of bytes.
-- Assumes nothing.
use Rattle.std.specs.Prelude.{ℕ, zero, suc, ◌+◌, ◌/◌, ◌%◌, List, fold, bit_xor, ◌==◌, if◌then◌else◌}

-- the terms of the polynomial below its highest, the term of 1 as the highest bit
abbrev pub polynomial : ℕ
polynomial = 0xedb8_8320

-- one step of the division: the remainder moves by one term, and where a term goes out, the polynomial is taken off
unfoldable pub shifted : ℕ → ℕ
shifted remainder = if remainder % 2 == 1 then bit_xor (remainder / 2) polynomial else remainder / 2

-- so many steps
abbrev pub shifts : ℕ → ℕ → ℕ
shifts zero remainder = remainder
shifts (suc n) remainder = shifted (shifts n remainder)

-- a byte is taken in lowest bit first: eight steps
abbrev pub taken_in : ℕ → ℕ → ℕ
taken_in remainder byte = shifts 8 (bit_xor remainder byte)

-- begun with ones, and ended by turning each bit
abbrev pub checksum : List ℕ → ℕ
checksum bytes = bit_xor (fold taken_in 0xffff_ffff bytes) 0xffff_ffff
