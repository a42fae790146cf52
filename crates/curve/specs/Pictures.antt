-- The curve as a picture.
-- Assumes nothing.
use Rattle.std.specs.Prelude.{ℕ, zero, suc, ◌+◌, ◌-◌, ◌*◌, ◌^◌, ℤ, List, [], ◌∷◌, ◌++◌, codes, min, length, count_by}
use Rattle.std.specs.Float.{float_one}
use Rattle.std.specs.Float.Ieee.{Float, binary64, mul, le, of_bits}
use Rattle.std.specs.Fmt.{decimal, signed_decimal}
use Rattle.std.specs.List.{range_with_len}
use Rattle.curve.specs.Captions.{caption}
use Rattle.curve.specs.Dots.{rate_of}
use Rattle.curve.specs.Plots.{numbered}
use Rattle.curve.specs.declared.choice.Choice.{Choice}
use Rattle.curve.specs.declared.counting.Dot.{Dot}

-- 10 to the power -1/20: the ratio of two rates one step apart
abbrev pub step : Float
step = of_bits binary64 0x3fec8520affa0a4b

-- the rate so many steps below 1
abbrev pub stepped_down : ℕ → Float
stepped_down zero = float_one
stepped_down (suc n) = mul binary64 (stepped_down n) step

-- how many steps a rate stands below 1, and 100 where it is still lower
unfoldable pub steps_below : Float → ℕ
steps_below rate = count_by (λ n. le rate (stepped_down n)) (range_with_len 1 100)

-- the height of so many steps, from the top: four units a step
abbrev pub height : ℕ → ℕ
height steps = min (steps * 4 + 40) (2 ^ 64 - 1)

-- a column's place from the left: fifty units a column
abbrev pub across : ℕ → ℕ
across column = min (column * 50 + 90) (2 ^ 64 - 1)

abbrev pub height_of_dot : Dot → ℕ
height_of_dot d = height (steps_below (rate_of d.count))

-- the line of a rate at this height, and its label
abbrev pub rule_text : ℕ → ℕ → List ℕ → List ℕ
rule_text wide y label =
    codes "<line x1=\"70\" x2=\"" ++ (decimal wide ++ (codes "\" y1=\"" ++ (decimal y ++ (codes "\" y2=\"" ++ (decimal y
    ++ (codes "\" stroke=\"silver\"/><text x=\"10\" y=\"" ++ (decimal y ++ (codes "\">" ++ (label ++ codes "</text>\n")))))))))

-- that of a power of ten: twenty steps below the one before
abbrev pub rule : ℕ → ℕ → List ℕ → List ℕ
rule wide power label = rule_text wide (height (power * 20)) label

abbrev pub labels : List (List ℕ)
labels = codes "1" ∷ codes "0.1" ∷ codes "0.01" ∷ codes "0.001" ∷ codes "0.0001" ∷ codes "0.00001" ∷ []

-- a point of the curve
abbrev pub place_text : ℕ → ℕ → List ℕ
place_text x y = decimal x ++ (codes "," ++ (decimal y ++ codes " "))

abbrev pub point : ℕ → Dot → List ℕ
point column d = place_text (across column) (height_of_dot d)

-- a dot, and the ratio under it
abbrev pub circle_text : ℕ → ℕ → ℤ → List ℕ
circle_text x y decibels =
    codes "<circle cx=\"" ++ (decimal x ++ (codes "\" cy=\"" ++ (decimal y ++ (codes "\" r=\"4\"/><text x=\"" ++ (decimal x
    ++ (codes "\" y=\"460\" text-anchor=\"middle\">" ++ (signed_decimal decibels ++ codes " dB</text>\n")))))))

abbrev pub circle : ℕ → Dot → List ℕ
circle column d = circle_text (across column) (height_of_dot d) d.decibels

-- a picture of this width: a white ground, the lines of the powers of ten, the curve, its dots, and above them the row
abbrev pub picture_of_width : ℕ → Choice → List Dot → List ℕ
picture_of_width wide c dots =
    codes "<svg xmlns=\"http://www.w3.org/2000/svg\" width=\"" ++ (decimal wide
    ++ (codes "\" height=\"500\" font-family=\"sans-serif\" font-size=\"12\">\n<rect width=\"100%\" height=\"100%\" fill=\"white\"/>\n"
    ++ (numbered (rule wide) 0 labels
    ++ (codes "<polyline fill=\"none\" stroke=\"black\" points=\"" ++ (numbered point 0 dots ++ (codes "\"/>\n"
    ++ (numbered circle 0 dots ++ (codes "<text x=\"10\" y=\"20\">bit error rate, " ++ (caption c ++ codes ": best possible decoding</text>\n</svg>\n")))))))))

-- as wide as the columns need
abbrev pub picture : Choice → List Dot → List ℕ
picture c dots = picture_of_width (across (length dots)) c dots
