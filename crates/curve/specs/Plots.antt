-- The dots as lines of numbers, and as a plot of text.
-- Assumes nothing.
use Rattle.std.specs.Prelude.{ℕ, ◌+◌, ◌-◌, ◌*◌, ◌/◌, ◌%◌, ◌^◌, ◌<◌, ◌≤◌, ℤ, List, [], ◌∷◌, ◌++◌, codes, count_by, ◌==◌, if◌then◌else◌}
use Rattle.std.specs.Float.Ieee.{Float, binary64, lt, of_bits}
use Rattle.std.specs.Fmt.{format_spec, styled_decimal, styled_signed_decimal}
use Rattle.std.specs.List.{flat_map}
use Rattle.errors.specs.declared.Count.{Count}
use Rattle.curve.specs.Captions.{caption}
use Rattle.curve.specs.Dots.{rate_of}
use Rattle.curve.specs.declared.choice.Choice.{Choice}
use Rattle.curve.specs.declared.counting.Dot.{Dot}

module _ {X : Type 0} (text : ℕ → X → List ℕ) where
  -- the texts of all elements, numbered from n on
  abbrev pub numbered : ℕ → List X → List ℕ
  numbered n [] = []
  numbered n (x ∷ xs) = text n x ++ numbered (n + 1) xs

-- a number at the right end of so many columns
abbrev pub number_in : ℕ → ℕ → List ℕ
number_in columns n = styled_decimal (format_spec 32 3 0 columns (2 ^ 64 - 1)) n

abbrev pub decibels_in : ℕ → ℤ → List ℕ
decibels_in columns z = styled_signed_decimal (format_spec 32 3 0 columns (2 ^ 64 - 1)) z

-- a number by so many digits, zeros in front
abbrev pub digits_in : ℕ → ℕ → List ℕ
digits_in columns n = styled_decimal (format_spec 32 0 4 columns (2 ^ 64 - 1)) n

-- bit errors for each bit in hundred-thousandths, to the nearest and a half upward; 0 where there is no bit
abbrev pub hundred_thousandths : Count → ℕ
hundred_thousandths c = if c.bits == 0 then 0 else (c.bit_errors * 200000 + c.bits) / (c.bits * 2)

-- e by b, in hundred-thousandths, is no farther than a half from h
pub record IsNearest (e b h : ℕ) : Type 0 where
  pub low : h * (b * 2) ≤ e * 200000 + b
  pub high : e * 200000 + b < h * (b * 2) + b * 2

-- the rate by five decimals
abbrev pub rate_text : Count → List ℕ
rate_text c = number_in 3 (hundred_thousandths c / 100000) ++ (46 ∷ digits_in 5 (hundred_thousandths c % 100000))

-- the line of a dot: what is counted, the rate, and the score
abbrev pub dot_line : Dot → List ℕ
dot_line d =
    decibels_in 5 d.decibels ++ (number_in 8 d.count.blocks ++ (number_in 10 d.count.bits ++ (number_in 12 d.count.bit_errors
    ++ (number_in 14 d.count.block_errors ++ (rate_text d.count ++ (number_in 14 d.score ++ (10 ∷ [])))))))

abbrev pub dots_head : List ℕ
dots_head = codes "   dB  blocks      bits  bit errors  block errors     rate         score\n"

-- a line for each dot, under a line with what its numbers are
abbrev pub dots_text : List Dot → List ℕ
dots_text dots = dots_head ++ flat_map dot_line dots

-- the rates at which the plot has a line: 1/2, 1/5, 1/10, down to 1/2000
abbrev pub levels : List Float
levels =
    of_bits binary64 0x3fe0000000000000 ∷ of_bits binary64 0x3fc999999999999a ∷ of_bits binary64 0x3fb999999999999a ∷ of_bits binary64 0x3fa999999999999a
    ∷ of_bits binary64 0x3f947ae147ae147b ∷ of_bits binary64 0x3f847ae147ae147b ∷ of_bits binary64 0x3f747ae147ae147b ∷ of_bits binary64 0x3f60624dd2f1a9fc
    ∷ of_bits binary64 0x3f50624dd2f1a9fc ∷ of_bits binary64 0x3f40624dd2f1a9fc ∷ []

-- the line of a rate: below how many of the levels it is
unfoldable pub line_of : Float → ℕ
line_of rate = count_by (λ level. lt rate level) levels

-- a star where the dot is on this line
abbrev pub mark : ℕ → Dot → List ℕ
mark line d = if line_of (rate_of d.count) == line then codes "    *" else codes "     "

-- a line of the plot, behind its label
abbrev pub plot_line : List Dot → ℕ → List ℕ → List ℕ
plot_line dots line label = label ++ (flat_map (mark line) dots ++ (10 ∷ []))

-- lines one under the other
abbrev pub plot_lines : List Dot → ℕ → List (List ℕ) → List ℕ
plot_lines dots = numbered (plot_line dots)

abbrev pub labels : List (List ℕ)
labels =
    codes " 0.5000 |" ∷ codes " 0.2000 |" ∷ codes " 0.1000 |" ∷ codes " 0.0500 |" ∷ codes " 0.0200 |" ∷ codes " 0.0100 |" ∷ codes " 0.0050 |"
    ∷ codes " 0.0020 |" ∷ codes " 0.0010 |" ∷ codes " 0.0005 |" ∷ codes "   less |" ∷ []

-- the ratios under the lines
abbrev pub scale : List Dot → List ℕ
scale dots = codes "     dB " ++ (flat_map (λ d. decibels_in 5 d.decibels) dots ++ (10 ∷ []))

-- the whole plot, under it the row
abbrev pub plot : Choice → List Dot → List ℕ
plot c dots = codes "bit error rate\n" ++ (plot_lines dots 0 labels ++ (scale dots ++ (caption c ++ codes ": best possible decoding\n")))
