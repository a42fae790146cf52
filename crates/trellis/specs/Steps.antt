-- What a search through the trellis knows of scores, and the score of a path.
-- Assumes nothing.
use Rattle.std.specs.Prelude.{◌≡◌, ℕ, zero, suc, ◌%◌, Bool, true, ◌||◌}
use Rattle.code.specs.Numbers.{num}

pub record Steps (S : Type 0) : Type 0 where
  -- the score that a path starts with
  pub from : S
  -- a score extended by step t, whose window is this number
  pub take : ℕ → ℕ → S → S
  pub no_worse : S → S → Bool

-- the laws of an order that every step keeps
pub record Ordered {S : Type 0} (steps : Steps S) : Type 0 where
  -- of any two scores one is no worse than the other
  pub total : (a b : S) → (steps.no_worse a b || steps.no_worse b a) ≡ true
  pub transitive : (a b c : S) → steps.no_worse a b ≡ true → steps.no_worse b c ≡ true → steps.no_worse a c ≡ true
  pub monotone : (t window : ℕ) (a b : S) → steps.no_worse a b ≡ true → steps.no_worse (steps.take t window a) (steps.take t window b) ≡ true

-- a block's bits, round and round
abbrev pub around : ℕ → (ℕ → Bool) → ℕ → Bool
around size u i = u (i % size)

module _ {S : Type 0} (steps : Steps S) (m : ℕ) where
  -- the score of a path's first steps: step t has the window of m + 1 bits from bit t on
  abbrev pub path_score : (ℕ → Bool) → ℕ → S
  path_score u zero = steps.from
  path_score u (suc t) = steps.take t (num u (suc m) t) (path_score u t)

  -- the score of a block: the path goes once round
  abbrev pub block_score : ℕ → (ℕ → Bool) → S
  block_score size u = path_score (around size u) size
