-- What is heard of a sent bit, in floats of 64 bits: each operation is rounded once.
-- Assumes nothing.
use Rattle.std.specs.Prelude.{ℕ, Bool, cond, ℤ, pos, negsuc}
use Rattle.std.specs.Int.{w16, int_max, int_min}
use Rattle.std.specs.Float.{float_one, float_round, float_to_signed}
use Rattle.std.specs.Float.Ieee.{Float, binary64, add, mul, div, sqrt, neg, of_int, of_bits}
use Rattle.channel.specs.Fractions.{normal}
use Rattle.plan.specs.Scheme.{Scheme, sent_length}

-- 32: what is heard of a bit without noise
abbrev pub amplitude : Float
amplitude = of_bits binary64 0x4040000000000000

-- how a bit is sent: 1 for 0, and −1 for 1
abbrev pub point : Bool → Float
point bit = cond bit (neg float_one) float_one

-- the value of a bit with noise of this deviation, drawn from this state on, rounded and kept within ±127
abbrev pub heard_value : Float → ℕ → Bool → ℤ
heard_value noise state bit =
    int_max (negsuc 126) (int_min (float_to_signed w16 (float_round binary64 (mul binary64 (add binary64 (point bit) (mul binary64 noise (normal state))) amplitude))) (pos 127))

-- the root of N by B: how much stronger the noise is against the bits of a block than against the sent ones
abbrev pub spread : Scheme → Float
spread s = sqrt binary64 (div binary64 (of_int binary64 (pos (sent_length s))) (of_int binary64 (pos s.block)))
