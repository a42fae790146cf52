-- The fractions and the nearly normal numbers that the generator draws, in floats of 64 bits: each sum and product is rounded once.
-- Assumes nothing.
use Rattle.std.specs.Prelude.{ℕ, zero, suc, pos}
use Rattle.std.specs.Float.Ieee.{Float, binary64, add, mul, neg, of_int, of_bits}
use Rattle.channel.specs.Drawing.{state_after, drawn}

-- 1 by 2 to the power 64
abbrev pub unit : Float
unit = of_bits binary64 0x3bf0000000000000

-- 6, the mean of twelve fractions
abbrev pub mean : Float
mean = of_bits binary64 0x4018000000000000

-- the number that is drawn, by 2 to the power 64
abbrev pub fraction : ℕ → Float
fraction state = mul binary64 (of_int binary64 (pos (drawn state))) unit

-- n drawn fractions less 6
abbrev pub summed : ℕ → ℕ → Float
summed state zero = neg mean
summed state (suc n) = add binary64 (summed state n) (fraction (state_after n state))

-- twelve fractions less 6
abbrev pub normal : ℕ → Float
normal state = summed state 12
