-- What several looks took, in floats of 64 bits: each operation is rounded once.
-- Assumes nothing.
use Rattle.std.specs.Prelude.{ℕ, ◌+◌, ◌-◌, ◌^◌, min, pos}
use Rattle.std.specs.Float.Ieee.{Float, binary64, add, mul, div, of_int, of_bits}
use Rattle.speed.specs.declared.timing.Taken.{Taken}

-- a number of looks or trips as a float
abbrev pub as_float : ℕ → Float
as_float n = of_int binary64 (pos n)

-- one look more, with its trips and seconds; counts stop at the greatest number of 64 bits
abbrev pub with_look : Taken → ℕ → Float → Taken
with_look t trips seconds = record {
  looks = min (t.looks + 1) (2 ^ 64 - 1);
  trips = min (t.trips + trips) (2 ^ 64 - 1);
  seconds = add binary64 t.seconds seconds;
}

-- looks by seconds
abbrev pub rate : Taken → Float
rate t = div binary64 (as_float t.looks) t.seconds

-- a million times the seconds, by looks
abbrev pub look_time : Taken → Float
look_time t = div binary64 (mul binary64 t.seconds (of_bits binary64 0x412e848000000000)) (as_float t.looks)

-- trips by looks
abbrev pub look_trips : Taken → Float
look_trips t = div binary64 (as_float t.trips) (as_float t.looks)

-- a thousand million times the seconds, by trips and by the bits of a block
abbrev pub bit_time : Taken → ℕ → Float
bit_time t bits = div binary64 (div binary64 (mul binary64 t.seconds (of_bits binary64 0x41cdcd6500000000)) (as_float t.trips)) (as_float bits)
