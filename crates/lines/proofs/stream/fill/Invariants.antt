use Rattle.std.proofs.Common.{◌≡◌, ℕ, List, Some}
use Rattle.std.specs.Io.Iter.{bytes_remaining}
use Rattle.lines.specs.Inputs.{kept_of}
use Rattle.lines.specs.Streams.{lines_from, lines_of}
use Rattle.lines.proofs.stream.fill.Given as goal

-- what is kept is that of the line so far, and the lines to come are those that came in with the first byte
abbrev pub invariant-loop-byte : goal.invariant-loop-byte
invariant-loop-byte g l =
    (begun : List ℕ) × (l.line.kept.items ≡ kept_of begun)
    × ((text : List ℕ) → bytes_remaining g.R.Read.remaining l.fn.input ≡ Some text
    → (rest : List ℕ) × (bytes_remaining g.R.Read.remaining l.input ≡ Some rest) × (lines_of text ≡ lines_from begun rest))
