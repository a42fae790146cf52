-- How each code rate is had from the pairs of the mother code.
-- Assumes nothing.
use Rattle.std.specs.Prelude.{ℕ, ◌+◌, ◌*◌, ◌/◌, cond, List, [], ◌∷◌, ◌++◌, length, codes, ◌==◌}
use Rattle.rows.specs.declared.rate.Rate.{Rate}
use Rattle.rows.specs.declared.rate.Rate.TheVariants.{NineTenths, EightNinths, FiveSixths, FourFifths, ThreeQuarters, TwoThirds, NineSixteenths, Half, Third, Quarter, Sixth, Eighth, Twelfth, Sixteenth}

-- Each pair comes so many times, and a mask is laid over the pairs so repeated. Its first row has a 1 for each first bit
-- that is sent, its second row for each second bit, in the order of time.
pub record Puncture : Type 0 where
  pub first : List ℕ
  pub second : List ℕ
  pub repeats : ℕ

-- the patterns of constraint length 7
abbrev pub seven : Rate → Puncture
seven NineTenths = record { first = codes "111101110"; second = codes "100010001"; repeats = 1 }
seven EightNinths = record { first = codes "11110100"; second = codes "10001011"; repeats = 1 }
seven FiveSixths = record { first = codes "11010"; second = codes "10101"; repeats = 1 }
seven FourFifths = record { first = codes "1111"; second = codes "1000"; repeats = 1 }
seven ThreeQuarters = record { first = codes "110"; second = codes "101"; repeats = 1 }
seven TwoThirds = record { first = codes "11"; second = codes "10"; repeats = 1 }
seven NineSixteenths = record { first = codes "111101111"; second = codes "111111011"; repeats = 1 }
seven Half = record { first = codes "1"; second = codes "1"; repeats = 1 }
seven Third = record { first = codes "11"; second = codes "10"; repeats = 2 }
seven Quarter = record { first = codes "11"; second = codes "11"; repeats = 2 }
seven Sixth = record { first = codes "111"; second = codes "111"; repeats = 3 }
seven Eighth = record { first = codes "1111"; second = codes "1111"; repeats = 4 }
seven Twelfth = record { first = codes "111111"; second = codes "111111"; repeats = 6 }
seven Sixteenth = record { first = codes "11111111"; second = codes "11111111"; repeats = 8 }

-- the patterns of constraint length 9
abbrev pub nine : Rate → Puncture
nine NineTenths = record { first = codes "111000101"; second = codes "100111010"; repeats = 1 }
nine EightNinths = record { first = codes "11100000"; second = codes "10011111"; repeats = 1 }
nine FiveSixths = record { first = codes "10110"; second = codes "11001"; repeats = 1 }
nine FourFifths = record { first = codes "1101"; second = codes "1010"; repeats = 1 }
nine ThreeQuarters = record { first = codes "111"; second = codes "100"; repeats = 1 }
nine TwoThirds = record { first = codes "11"; second = codes "10"; repeats = 1 }
nine NineSixteenths = record { first = codes "111101111"; second = codes "111111011"; repeats = 1 }
nine Half = record { first = codes "1"; second = codes "1"; repeats = 1 }
nine Third = record { first = codes "11"; second = codes "10"; repeats = 2 }
nine Quarter = record { first = codes "11"; second = codes "11"; repeats = 2 }
nine Sixth = record { first = codes "111"; second = codes "111"; repeats = 3 }
nine Eighth = record { first = codes "1111"; second = codes "1111"; repeats = 4 }
nine Twelfth = record { first = codes "111111"; second = codes "111111"; repeats = 6 }
nine Sixteenth = record { first = codes "11111111"; second = codes "11111111"; repeats = 8 }

abbrev pub puncture : Rate → ℕ → Puncture
puncture rate constraint = cond (constraint == 7) (seven rate) (nine rate)

-- the entry, where the mask has a 1 for it
abbrev pub if_sent : ℕ → ℕ → List ℕ
if_sent digit entry = cond (digit == 49) (entry ∷ []) []

-- what is sent of one column, whose digits are these: the first bit of its pair, then the second
abbrev pub column_listed : ℕ → ℕ → ℕ → ℕ → List ℕ
column_listed repeats column first second = if_sent first (2 * (column / repeats)) ++ if_sent second (2 * (column / repeats) + 1)

-- what is sent of the columns from the given one on
abbrev pub listed : ℕ → ℕ → List ℕ → List ℕ → List ℕ
listed repeats column [] second = []
listed repeats column (f ∷ first) [] = []
listed repeats column (f ∷ first) (s ∷ second) = column_listed repeats column f s ++ listed repeats (column + 1) first second

-- the send list of a pattern
abbrev pub send_list : Puncture → List ℕ
send_list p = listed p.repeats 0 p.first p.second

-- the period of a pattern: how many pairs its mask covers
abbrev pub period : Puncture → ℕ
period p = length p.first / p.repeats
