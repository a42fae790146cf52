-- A table of the register's values.
-- Assumes nothing.
use Rattle.std.specs.Prelude.{◌≡◌, ℕ, ◌<◌, List, Some, map}
use Rattle.std.specs.List.{range_with_len}
use Rattle.plan.specs.Scheme.{Scheme}
use Rattle.scrambler.specs.Meaning.{Meaning, reach, value_at}
use Rattle.scrambler.specs.Shifts.{drawn}
use Rattle.sender.specs.Scrambling.{needed_width}

-- the values that a register of this width draws at the first places
abbrev pub first_drawn : ℕ → ℕ → List ℕ
first_drawn width count = map (drawn width) (range_with_len 0 count)

-- a scrambler has the width that the plan needs, and at the places of a frame, and no other, the register's values
pub record OfRegister (s : Scheme) (m : Meaning) : Type 0 where
  pub width : m.width ≡ needed_width s.bits
  pub long : reach m ≡ s.frame
  pub each : (place : ℕ) → place < s.frame → value_at m place ≡ Some (drawn (needed_width s.bits) place)
