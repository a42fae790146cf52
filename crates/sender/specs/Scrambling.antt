-- How a symbol is scrambled, and how the scrambling is taken off.
-- Assumes nothing.
use Rattle.std.specs.Prelude.{ℕ, ◌+◌, ◌-◌, ◌%◌, Bool, cond, ◌&&◌, ◌==◌, bit_xor, nat_le}
use Rattle.plan.specs.Scheme.{Scheme}
use Rattle.scrambler.specs.Meaning.{Meaning, reach}

-- the width that symbols of q bits need: 3 up to 3 bits, else q
abbrev pub needed_width : ℕ → ℕ
needed_width q = cond (nat_le q 3) 3 q

-- the on-air index: the sum with the value modulo 8 up to 3 bits, else the exclusive or with it
unfoldable pub scrambled : ℕ → ℕ → ℕ → ℕ
scrambled q symbol value = cond (nat_le q 3) ((symbol + value) % 8) (bit_xor symbol value)

-- the symbol again: the difference modulo 8 up to 3 bits, else the exclusive or once more
unfoldable pub unscrambled : ℕ → ℕ → ℕ → ℕ
unscrambled q index value = cond (nat_le q 3) ((index + (8 - value % 8)) % 8) (bit_xor index value)

-- the scrambler has the needed width and a value for every symbol of a frame
abbrev pub fits : Scheme → Meaning → Bool
fits s m = m.width == needed_width s.bits && nat_le s.frame (reach m)
