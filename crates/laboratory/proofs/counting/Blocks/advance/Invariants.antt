use Rattle.std.proofs.Common.{◌≡◌, ℕ, List, Some}
use Rattle.bits_text.specs.Blocks.{blocks_from, blocks}
use Rattle.laboratory.specs.Counting.{left, steps_left, Stands, Reads, Clear}
use Rattle.laboratory.proofs.counting.Blocks.advance.Given as goal

-- the blocks to come are those that came in with the first byte, and so much of the whole text is read
abbrev pub invariant-loop-self : goal.invariant-loop-self
invariant-loop-self g l = record {
  known : (xs : List ℕ) → left g.R.Read.remaining l.initial.self ≡ Some xs
      → (line : List ℕ) × (ys : List ℕ) × Stands g.R.Read.remaining l.self line ys × (blocks xs ≡ blocks_from line ys);
  read : (whole : List ℕ) → Reads g.R.Read.remaining l.fn.self whole → Clear l.fn.self → Reads g.R.Read.remaining l.self whole;
  name : l.self.line.name.now ≡ l.fn.self.line.name.now;
}

abbrev pub decreases-loop-self : goal.decreases-loop-self
decreases-loop-self g l = steps_left l.self
