-- The code rates as fractions.
-- Assumes nothing.
use Rattle.std.specs.Prelude.{ℕ, List, ◌++◌, codes, decimal}
use Rattle.rows.specs.declared.rate.Rate.{Rate}
use Rattle.rows.specs.declared.rate.Rate.TheVariants.{NineTenths, EightNinths, FiveSixths, FourFifths, ThreeQuarters, TwoThirds, NineSixteenths, Half, Third, Quarter, Sixth, Eighth, Twelfth, Sixteenth}

-- for so many bits of the block, so many are sent
abbrev pub ratio : Rate → ℕ × ℕ
ratio NineTenths = (9, 10)
ratio EightNinths = (8, 9)
ratio FiveSixths = (5, 6)
ratio FourFifths = (4, 5)
ratio ThreeQuarters = (3, 4)
ratio TwoThirds = (2, 3)
ratio NineSixteenths = (9, 16)
ratio Half = (1, 2)
ratio Third = (1, 3)
ratio Quarter = (1, 4)
ratio Sixth = (1, 6)
ratio Eighth = (1, 8)
ratio Twelfth = (1, 12)
ratio Sixteenth = (1, 16)

-- how a rate is written
abbrev pub fraction : Rate → List ℕ
fraction rate = decimal (ratio rate).0 ++ (codes "/" ++ decimal (ratio rate).1)
