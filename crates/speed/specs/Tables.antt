-- Which measurements are made, and the lines of their tables.
-- Assumes nothing.
use Rattle.std.specs.Prelude.{◌≡◌, ℕ, ◌<◌, Bool, true, false, ◌⊎◌, ℤ, pos, List, [], ◌∷◌, ◌++◌, codes, Some}
use Rattle.std.specs.Float.Ieee.{Float, binary64, lt, of_bits}
use Rattle.std.specs.Fmt.{decimal, signed_decimal}
use Rattle.plan.specs.Scheme.{Scheme}
use Rattle.rows.specs.Schemes.{row_scheme}
use Rattle.rows.specs.declared.row.Row.{Row}
use Rattle.speed.specs.Measuring.{half_rate}
use Rattle.speed.specs.Times.{with_look}
use Rattle.speed.specs.declared.judge.Judge.{Judge}
use Rattle.speed.specs.declared.judge.Judge.TheVariants.{Total, Worst, CountFirst}
use Rattle.speed.specs.declared.timing.Taken.{Taken}

-- more than half a second
abbrev pub is_enough : Taken → Bool
is_enough t = lt (of_bits binary64 0x3fe0000000000000) t.seconds

abbrev pub no_looks : Taken
no_looks = record { looks = 0; trips = 0; seconds = of_bits binary64 0 }

-- a look is begun as long as there are fewer than 500 and they have not taken enough
pub data Begun : Taken → Type 0 where
  none : Begun no_looks
  next : {t : Taken} (trips : ℕ) (seconds : Float) → Begun t → t.looks < 500 → is_enough t ≡ false → Begun (with_look t trips seconds)

-- looks one after the other, until no further one is begun
abbrev pub Looks : Taken → Type 0
Looks t = Begun t × ((t.looks ≡ 500) ⊎ (is_enough t ≡ true))

-- the name of a kind of score
abbrev pub judge_name : Judge → List ℕ
judge_name Total = codes "Total"
judge_name Worst = codes "Worst"
judge_name CountFirst = codes "Count-first"

-- a line: constraint length, bits of a block, ratio, kind, number of looks, and the text of the times
abbrev pub line_text : ℕ → ℕ → ℤ → Judge → ℕ → List ℕ → List ℕ
line_text constraint block decibels judge looks times =
    codes "| " ++ (decimal constraint ++ (codes " | " ++ (decimal block ++ (codes " | " ++ (signed_decimal decibels ++ (codes " | " ++ (judge_name judge
    ++ (codes " | " ++ (decimal looks ++ (codes " | " ++ (times ++ codes "\n")))))))))))

-- what is said of the times is not claimed
abbrev pub IsLine : Scheme → ℤ → Judge → List ℕ → Type 0
IsLine s decibels judge text =
    (t : Taken) × Looks t × ((times : List ℕ) × (text ≡ line_text s.constraint s.block decibels judge t.looks times))

-- a text for each, one behind the other
abbrev pub Each : {X : Type 0} → (X → List ℕ → Type 0) → List X → List ℕ → Type 0
Each P [] text = text ≡ []
Each P (x ∷ xs) text = (first : List ℕ) × P x first × ((rest : List ℕ) × Each P xs rest × (text ≡ first ++ rest))

-- one text behind another
abbrev pub Both : (List ℕ → Type 0) → (List ℕ → Type 0) → List ℕ → Type 0
Both P Q text = (first : List ℕ) × P first × ((rest : List ℕ) × Q rest × (text ≡ first ++ rest))

-- the long row of rate 1/2, and the longest row
abbrev pub long_row : Row
long_row = record { bandwidth = 36; waveform = 4; interleaver = 3 }

abbrev pub longest_row : Row
longest_row = record { bandwidth = 48; waveform = 12; interleaver = 3 }

-- all three kinds
abbrev pub AllKinds : Scheme → ℤ → List ℕ → Type 0
AllKinds s decibels text = Each (IsLine s decibels) (Total ∷ Worst ∷ CountFirst ∷ []) text

abbrev pub AtRatios : Scheme → List ℤ → List ℕ → Type 0
AtRatios s ratios text = Each (AllKinds s) ratios text

abbrev pub AtLengths : ℕ → List ℕ → Type 0
AtLengths k text = Each (λ block. AtRatios (half_rate k block) (pos 0 ∷ pos 1 ∷ pos 2 ∷ pos 3 ∷ pos 5 ∷ [])) (136 ∷ 3072 ∷ []) text

-- the lines of a row of the standard
abbrev pub OfRow : Row → ℕ → (Scheme → List ℕ → Type 0) → List ℕ → Type 0
OfRow row k P text = (s : Scheme) × (Some s ≡ row_scheme row k) × P s text

-- a code: two lengths of block at five ratios, and the long row at two
abbrev pub KindsOf : ℕ → List ℕ → Type 0
KindsOf k text = Both (AtLengths k) (OfRow long_row k (λ s. AtRatios s (pos 1 ∷ pos 3 ∷ []))) text

abbrev pub Kinds : List ℕ → Type 0
Kinds text = Both (KindsOf 7) (KindsOf 9) text

-- Total alone: four lengths of block, and the long row
abbrev pub ByLength : ℕ → ℤ → List ℕ → Type 0
ByLength k decibels text =
    Both (Each (λ block. IsLine (half_rate k block) decibels Total) (136 ∷ 512 ∷ 3072 ∷ 12288 ∷ [])) (OfRow long_row k (λ s. IsLine s decibels Total)) text

-- at three ratios, and the longest row at 7
abbrev pub GrowthOf : ℕ → List ℕ → Type 0
GrowthOf k text = Both (Each (ByLength k) (pos 1 ∷ pos 3 ∷ pos 5 ∷ [])) (OfRow longest_row k (λ s. IsLine s (pos 7) Total)) text

abbrev pub Growth : List ℕ → Type 0
Growth text = Both (GrowthOf 7) (GrowthOf 9) text

-- what the columns are; the micro sign is two bytes
abbrev pub table_head : List ℕ
table_head =
    codes "| k | B | dB | kind | looks | looks in a second | " ++ (194 ∷ 181 ∷ codes "s of a look | trips of a look | ns of a bit and trip |\n|---|---|---|---|---|---|---|---|---|---|\n")
