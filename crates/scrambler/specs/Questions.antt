-- What is asked of a scrambler that is to be made.
-- Assumes nothing.
use Rattle.std.specs.Prelude.{ℕ, ◌^◌, Bool, cond, ◌&&◌, ◌||◌, List, length, ◌==◌}
use Rattle.plan.specs.Questions.{within, all_below}

-- the width is 3, 4, 5, 6 or 8
abbrev pub width_fits : ℕ → Bool
width_fits w = within 3 6 w || w == 8

-- a table has 1 to 4,096 values, each below 2 to the power of the width
abbrev pub values_fit : ℕ → List ℕ → Bool
values_fit w values = within 1 4096 (length values) && all_below (2 ^ w) values

-- a table has such a width and such values
abbrev pub table_fits : ℕ → List ℕ → Bool
table_fits w values = width_fits w && values_fit w values

-- the number that making a scrambler answers: 0 for a yes
abbrev pub making_answer : Bool → ℕ
making_answer fits = cond fits 0 10
