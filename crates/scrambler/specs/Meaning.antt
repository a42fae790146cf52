-- What a scrambler means: a width, and the values that it answers, place by place.
-- Assumes nothing.
use Rattle.std.specs.Prelude.{ℕ, ◌^◌, ◌<◌, cond, List, length, Some, None, Option, nat_lt, slice_index}

pub record Meaning : Type 0 where
  -- the bits of a value
  pub width : ℕ
  -- the values, from place 0 on
  pub values : List ℕ

-- how many places have a value
abbrev pub reach : Meaning → ℕ
reach m = length m.values

-- the value at a place below the reach, and none from the reach on
abbrev pub value_at : Meaning → ℕ → Option ℕ
value_at m place = cond (nat_lt place (reach m)) (Some (slice_index m.values place)) None

-- every value has at most as many bits as the width says
abbrev pub Bounded : Meaning → Type 0
Bounded m = (place : ℕ) → place < reach m → slice_index m.values place < 2 ^ m.width
