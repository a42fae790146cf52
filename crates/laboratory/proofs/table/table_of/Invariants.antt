use Rattle.std.proofs.Common.{◌≡◌, ℕ, ◌-◌, ◌^◌, min, List, ◌++◌, Some, length}
use Rattle.std.specs.Io.Buffered.{reader_remaining}
use Rattle.std.specs.Io.Iter.{lines_known_bytes}
use Rattle.std.specs.Str.Lines.{lines}
use Rattle.laboratory.specs.TableText.{all_words, AreValues}
use Rattle.laboratory.proofs.table.table_of.Given as goal

-- the lines so far are counted, and their values listed
abbrev pub invariant-loop-line : goal.invariant-loop-line
invariant-loop-line g l =
    (xs : List ℕ) → g.R.Read.remaining l.fn.text ≡ Some xs
    → (done : List (List ℕ)) × (ys : List ℕ) × (lines_known_bytes (reader_remaining g.R.Read.remaining) l.line-iterator ≡ Some ys) × (lines xs ≡ done ++ lines ys)
    × AreValues (all_words done) l.values.items × (l.number ≡ min (length done) (2 ^ 64 - 1))
