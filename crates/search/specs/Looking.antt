-- What a search answers.
-- Assumes nothing.
use Rattle.std.specs.Prelude.{◌≡◌, ℕ, ◌*◌, ◌/◌, ◌^◌, ◌<◌, Bool, true, cond, ◌&&◌, List, length, ℤ, nat_le}
use Rattle.plan.specs.Scheme.{Scheme, sent_length}
use Rattle.score.specs.Scale.{Scale}
use Rattle.score.specs.Blocks.{block_score}
use Rattle.trellis.specs.Choice.{picked}
use Rattle.trellis.specs.Marks.{overwritten}
use Rattle.search.specs.Searching.{memory, steps}

-- a block and its score, as the tie rule picks them
pub record Found {S : Type 0} (k : Scale S) (s : Scheme) (values : ℕ → ℤ) (u : ℕ → Bool) (score : S) : Type 0 where
  -- the block is the tie rule's
  pub picks : (i : ℕ) → i < s.block → u i ≡ picked (steps k s values) (memory s) s.block i
  -- the score is the block's own
  pub scores : score ≡ block_score k s values u
  -- no block scores better
  pub beats : (v : ℕ → Bool) → k.no_worse score (block_score k s values v) ≡ true

-- a memory with the picked block written over its first bytes; the rest stays
abbrev pub shown : {S : Type 0} → Scale S → Scheme → (ℕ → ℤ) → List ℕ → List ℕ
shown k s values bytes = overwritten s.block (picked (steps k s values) (memory s) s.block) bytes

-- the lengths of the memories that a search is given
pub record Lengths : Type 0 where
  pub values : ℕ
  pub block : ℕ
  pub old : ℕ
  pub new : ℕ
  pub marks : ℕ

abbrev pub lengths : {S : Type 0} → List ℤ → List ℕ → List S → List S → List ℕ → Lengths
lengths values block old new marks = record { values = length values; block = length block; old = length old; new = length new; marks = length marks }

-- each memory is long enough
abbrev pub long_enough : Scheme → Lengths → Bool
long_enough s l =
    nat_le (sent_length s) l.values && nat_le s.block l.block && nat_le (2 ^ memory s) l.old && nat_le (2 ^ memory s) l.new
    && nat_le (s.block * 2 ^ memory s / 8) l.marks

-- the number of the question that is answered no, and 0 where there is none
abbrev pub search_answer : Scheme → Lengths → ℕ
search_answer s l = cond (long_enough s l) 0 13
