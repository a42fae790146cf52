-- What a symbol meets on the air.
-- Assumes nothing.
use Rattle.std.specs.Prelude.{ℕ, zero, suc, ℤ, pos, negsuc}
use Rattle.std.specs.Float.{float_one, float_clamp}
use Rattle.std.specs.Float.Ieee.{Float, binary64, add, mul, div, of_bits}
use Rattle.channel.specs.Drawing.{state_after}
use Rattle.channel.specs.Fractions.{normal}
use Rattle.channel.specs.Plane.{diagonal}
use Rattle.channel.specs.declared.air.Air.{Air}
use Rattle.channel.specs.declared.phase.Point.{Point}

-- 0.02: how far the amplitude walks in a symbol
abbrev pub step : Float
step = of_bits binary64 0x3f947ae147ae147b

-- 0.5 and 1.5: the bounds of the amplitude
abbrev pub least : Float
least = of_bits binary64 0x3fe0000000000000

abbrev pub most : Float
most = of_bits binary64 0x3ff8000000000000

-- the amplitude of the next symbol: a step from the last one, held between its bounds
abbrev pub faded : Air → Float
faded a = float_clamp (add binary64 a.amplitude (mul binary64 step (normal a.generator.state))) least most

-- a coordinate as it arrives, with noise drawn from this state on
abbrev pub with_noise : Air → Float → ℕ → Float
with_noise a coordinate state = add binary64 (mul binary64 coordinate (faded a)) (mul binary64 a.noise (normal state))

-- a point as it arrives: three numbers are drawn, for the fade and for each coordinate
abbrev pub arrived : Air → Point → Point
arrived a p = record {
  x = with_noise a p.x (state_after 12 a.generator.state);
  y = with_noise a p.y (state_after 12 (state_after 12 a.generator.state));
}

-- the air after a symbol
abbrev pub aired : Air → Air
aired a = record {
  generator = record { state = state_after 12 (state_after 12 (state_after 12 a.generator.state)) };
  amplitude = faded a;
  noise = a.noise;
}

-- 10 to the power -1/20: the ratio of two amplitudes that are one decibel apart
abbrev pub decibel : Float
decibel = of_bits binary64 0x3fec8520affa0a4b

-- the deviation of the noise in each direction where a symbol of amplitude 1 has the noise's power is one by the root of 2;
-- where it has n decibels more, the noise is n times a decibel weaker
abbrev pub weaker : ℕ → Float
weaker zero = diagonal
weaker (suc n) = mul binary64 (weaker n) decibel

-- where it has n decibels less, the noise is n times a decibel stronger
abbrev pub stronger : ℕ → Float
stronger zero = diagonal
stronger (suc n) = div binary64 (stronger n) decibel

-- the deviation of the noise at so many decibels
unfoldable pub noise_at : ℤ → Float
noise_at (pos n) = weaker n
noise_at (negsuc n) = stronger (suc n)

-- air of a seed and so many decibels, in which nothing has been drawn and nothing has faded yet
abbrev pub fresh : ℕ → ℤ → Air
fresh seed decibels = record { generator = record { state = seed }; amplitude = float_one; noise = noise_at decibels }
