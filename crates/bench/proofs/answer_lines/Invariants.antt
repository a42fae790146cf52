use Rattle.std.proofs.Common.{◌≡◌, ℕ, ◌+◌, ◌≤◌, List, ◌++◌, length, Some, None}
use Rattle.std.specs.Io.Iter.{bytes_remaining}
use Rattle.std.specs.Io.KnownBytes.{Appends}
use Rattle.lines.specs.Inputs.{kept_of}
use Rattle.lines.specs.Streams.{lines_from, lines_of}
use Rattle.session.specs.Held.{Held}
use Rattle.session.specs.Sessions.{held}
use Rattle.bench.specs.Answering.{Answered}
use Rattle.bench.proofs.answer_lines.Given as goal

-- the lines so far are answered, and of the text behind them what was read is kept, and the rest is still to come
abbrev pub invariant-loop-byte : goal.invariant-loop-byte
invariant-loop-byte g l =
    (each : List (List ℕ)) × (text : List ℕ) × (first : Held) × (begun : List ℕ) × ((1 + length each ≡ l.number) × (l.number ≤ 65535)) × (first.plan ≡ None) × (first.receiver ≡ None)
    × Answered 1 each first (held l.session) text × Appends (g.W.Write.contents l.initial.output) (g.W.Write.contents l.output) text
    × (l.line.kept.items ≡ kept_of begun)
    × ((input : List ℕ) → g.R.Read.remaining l.fn.input ≡ Some input
    → (behind : List ℕ) × (rest : List ℕ) × (bytes_remaining g.R.Read.remaining l.byte-iterator ≡ Some rest) × (lines_of input ≡ each ++ lines_of behind)
    × (lines_of behind ≡ lines_from begun rest))
