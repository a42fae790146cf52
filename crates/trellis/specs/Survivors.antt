-- The survivors of a pass through the trellis. A state is m bits as a number, the oldest highest.
-- Assumes nothing.
use Rattle.std.specs.Prelude.{ℕ, zero, suc, ◌+◌, ◌*◌, ◌/◌, ◌^◌, Bool, true, false, cond, not, Some, None, Option, nat_lt}
use Rattle.std.specs.Option.{unwrap_or}
use Rattle.code.specs.Numbers.{digit, bit_of}
use Rattle.trellis.specs.Steps.{Steps}

-- the window of the step into state s that shifts bit b out
abbrev pub window : ℕ → Bool → ℕ → ℕ
window m b s = digit b * 2 ^ m + s

-- the state before that step
abbrev pub before : ℕ → Bool → ℕ → ℕ
before m b s = window m b s / 2

-- the forced bits of a pass whose start has the first `held` bits of the number x
abbrev pub prefix : ℕ → ℕ → ℕ → ℕ → Option Bool
prefix m held x t = cond (nat_lt t held) (Some (bit_of m x t)) None

module _ {S : Type 0} (steps : Steps S) (m : ℕ) where
  -- the score at state s by the way that shifts bit b out
  abbrev pub way : ℕ → (ℕ → S) → ℕ → Bool → S
  way t column s b = steps.take t (window m b s) (column (before m b s))

  -- the bit that the surviving way shifts out: the forced one, else that of the better way, of equals 0
  abbrev pub next_mark : Option Bool → ℕ → (ℕ → S) → ℕ → Bool
  next_mark forced t column s = unwrap_or forced (not (steps.no_worse (way t column s false) (way t column s true)))

  -- the score at state s by the surviving way
  abbrev pub next : Option Bool → ℕ → (ℕ → S) → ℕ → S
  next forced t column s = way t column s (next_mark forced t column s)

  -- the score of the path that survives into state s at time t, where some bits are forced
  unfoldable pub survivor : (ℕ → Option Bool) → ℕ → ℕ → S
  survivor forced zero s = steps.from
  survivor forced (suc t) s = next (forced t) t (survivor forced t) s

  -- the bit that step t into state s shifts out
  abbrev pub mark : (ℕ → Option Bool) → ℕ → ℕ → Bool
  mark forced t s = next_mark (forced t) t (survivor forced t) s
