use Rattle.std.proofs.Common.{◌≡◌, ℕ, ◌+◌, List, Some, length, max, codes}
use Rattle.bits_text.specs.Blocks.{blocks}
use Rattle.comparison.specs.Comparing.{nothing, compared}
use Rattle.laboratory.specs.Counting.{left, Reads, Clear}
use Rattle.laboratory.proofs.counting.count.Given as goal

-- what is counted, with the blocks to come, is what there was to count, and so much of either text is read
abbrev pub invariant-loop-round : goal.invariant-loop-round
invariant-loop-round g l = record {
  known : (xs ys : List ℕ) → g.R.Read.remaining l.fn.sent ≡ Some xs → g.S.Read.remaining l.fn.shown ≡ Some ys
      → (vs : List ℕ) × (ws : List ℕ) × (left g.R.Read.remaining l.sent ≡ Some vs) × (left g.S.Read.remaining l.shown ≡ Some ws)
      × (compared nothing (blocks xs) (blocks ys) ≡ compared l.comparison (blocks vs) (blocks ws))
      × (l._round + max (length (blocks vs)) (length (blocks ws)) ≡ max (length (blocks xs)) (length (blocks ys)));
  sent : (xs : List ℕ) → g.R.Read.remaining l.fn.sent ≡ Some xs → Reads g.R.Read.remaining l.sent xs × Clear l.sent;
  shown : (ys : List ℕ) → g.S.Read.remaining l.fn.shown ≡ Some ys → Reads g.S.Read.remaining l.shown ys × Clear l.shown;
  first : l.sent.line.name.now ≡ codes "the first file";
  second : l.shown.line.name.now ≡ codes "the second file";
}
