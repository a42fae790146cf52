-- What a list of calls is given, by its lengths.
-- Assumes nothing.
use Rattle.std.specs.Prelude.{ℕ, ◌-◌, ◌/◌, List, length, ℤ}
use Rattle.search.specs.Looking.{Lengths}

-- the first half of the memory for scores is one column, the rest is the other
abbrev pub given : {S : Type 0} → List ℤ → List ℕ → List S → List ℕ → Lengths
given memory block scores marks = record {
  values = length memory;
  block = length block;
  old = length scores / 2;
  new = length scores - length scores / 2;
  marks = length marks;
}
