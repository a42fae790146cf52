-- The tie rule: the block that is picked.
-- Assumes nothing.
use Rattle.std.specs.Prelude.{ℕ, zero, suc, ◌^◌, Bool, false, cond, ◌==◌}
use Rattle.trellis.specs.Steps.{Steps}
use Rattle.trellis.specs.Survivors.{before, prefix, survivor, mark}

-- the bits that marks give, traced back from state s at time t; no bit at t or after
unfoldable pub back : ℕ → (ℕ → ℕ → Bool) → ℕ → ℕ → ℕ → Bool
back m marks zero s i = false
back m marks (suc t) s i = cond (i == t) (marks t s) (back m marks t (before m (marks t s) s) i)

-- the state at time 0, on the path that marks give into state s at time t
unfoldable pub origin : ℕ → (ℕ → ℕ → Bool) → ℕ → ℕ → ℕ
origin m marks zero s = s
origin m marks (suc t) s = origin m marks t (before m (marks t s) s)

module _ {S : Type 0} (steps : Steps S) (m size : ℕ) where
  -- the score that survives from start number x round to the same number
  abbrev pub final : ℕ → S
  final x = survivor steps m (prefix m m x) size x

  -- the block that survives from start number x round to the same number
  abbrev pub traced : ℕ → ℕ → Bool
  traced x = back m (mark steps m (prefix m m x)) size x

  -- of the start numbers below n the one with the better final score, of equals the smaller number
  unfoldable pub winner : ℕ → ℕ
  winner zero = 0
  winner (suc n) = cond (steps.no_worse (final (winner n)) (final n)) (winner n) n

  -- the block that survives from the winner of all start numbers
  abbrev pub picked : ℕ → Bool
  picked = traced (winner (2 ^ m))
