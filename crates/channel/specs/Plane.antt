-- Points of the plane, and the decision for one. Numbers are floats of 64 bits, and each sum and product is rounded once.
-- Assumes nothing.
use Rattle.std.specs.Prelude.{ℕ, zero, suc, ◌-◌, ◌%◌, ◌^◌, min, max, cond, [], ◌∷◌, slice_index_or}
use Rattle.std.specs.Float.{float_zero, float_one, float_to_unsigned}
use Rattle.std.specs.Float.Ieee.{Float, binary64, add, sub, mul, neg, lt, of_bits}
use Rattle.std.specs.Int.{w64}
use Rattle.channel.specs.Hearing.{candidate}
use Rattle.channel.specs.declared.decision.Nearest.{Nearest}
use Rattle.channel.specs.declared.hearing.Heard.{Heard}
use Rattle.channel.specs.declared.phase.Point.{Point}

-- one by the root of 2: both coordinates of the point an eighth of a turn from the first axis
abbrev pub diagonal : Float
diagonal = of_bits binary64 0x3fe6a09e667f3bcd

-- 1,000,000,000, farther than any point that arrives
abbrev pub far : Float
far = of_bits binary64 0x41cdcd6500000000

abbrev pub at : Float → Float → Point
at x y = record { x = x; y = y }

-- the phase of an on-air index, an eighth of a turn for each from the first axis on
abbrev pub phase_point : ℕ → Point
phase_point index =
    slice_index_or
    (at float_one float_zero
    ∷ at diagonal diagonal
    ∷ at float_zero float_one
    ∷ at (neg diagonal) diagonal
    ∷ at (neg float_one) float_zero
    ∷ at (neg diagonal) (neg diagonal)
    ∷ at float_zero (neg float_one)
    ∷ at diagonal (neg diagonal)
    ∷ [])
    (index % 8) (at float_zero float_zero)

abbrev pub squared : Float → Float
squared x = mul binary64 x x

-- the square of the distance of two points
abbrev pub apart : Point → Point → Float
apart a b = add binary64 (squared (sub binary64 a.x b.x)) (squared (sub binary64 a.y b.y))

-- one candidate more: nearer than the nearest, than the next, or neither
abbrev pub with_candidate : Nearest → ℕ → Float → Nearest
with_candidate n index distance =
    cond (lt distance n.near) (record { index = index; near = distance; next = n.near })
    (cond (lt distance n.next) (record { index = n.index; near = n.near; next = distance }) n)

-- the nearest of the first candidate and n more, and how far it and the next are
abbrev pub nearest_of : ℕ → ℕ → Point → ℕ → Nearest
nearest_of q value p zero = record { index = candidate q value 0; near = apart p (phase_point (candidate q value 0)); next = far }
nearest_of q value p (suc n) = with_candidate (nearest_of q value p n) (candidate q value (suc n)) (apart p (phase_point (candidate q value (suc n))))

-- 1,024, the weight of a squared distance of 1
abbrev pub scale : Float
scale = of_bits binary64 0x4090000000000000

-- the weight of what the next is farther, from 1 to 32,767
abbrev pub weight_for : Float → ℕ
weight_for farther = min (max (float_to_unsigned w64 (mul binary64 farther scale)) 1) 32767

-- what is heard of a point
abbrev pub decided : ℕ → ℕ → Point → Heard
decided q value p =
    record { index = (nearest_of q value p (2 ^ q - 1)).index; weight = weight_for (sub binary64 (nearest_of q value p (2 ^ q - 1)).next (nearest_of q value p (2 ^ q - 1)).near) }
