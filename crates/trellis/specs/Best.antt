-- What the answer of a search promises, and that the tie rule's block keeps it.
-- Assumes nothing.
use Rattle.std.specs.Prelude.{◌≡◌, ℕ, ◌^◌, ◌<◌, Bool, true}
use Rattle.trellis.specs.Steps.{Steps, Ordered, block_score}
use Rattle.trellis.specs.Choice.{final, winner, picked}

pub record Best {S : Type 0} (steps : Steps S) (m size : ℕ) (u : ℕ → Bool) (score : S) : Type 0 where
  -- the block is the tie rule's
  pub picks : (i : ℕ) → i < size → u i ≡ picked steps m size i
  -- the score is the block's own
  pub scores : score ≡ block_score steps m size u
  -- no block scores better
  pub beats : (v : ℕ → Bool) → steps.no_worse score (block_score steps m size v) ≡ true

-- under the laws of an order, the block that the tie rule picks is best, with the score that survived
abbrev pub PickedIsBest : (S : Type 0) → Type 0
PickedIsBest S = (steps : Steps S) → Ordered steps → (m size : ℕ) → m < size → Best steps m size (picked steps m size) (final steps m size (winner steps m size (2 ^ m)))
