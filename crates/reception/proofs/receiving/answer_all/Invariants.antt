use Rattle.std.proofs.Common.{◌≡◌, ℕ, List, ◌++◌, length, Some}
use Rattle.std.specs.Io.KnownBytes.{Appends}
use Rattle.lines.specs.Streams.{lines_of, left}
use Rattle.receiver.specs.Receivers.{view_of}
use Rattle.replay.specs.Given.{given}
use Rattle.reception.specs.Receiving.{Announced, Received}
use Rattle.reception.proofs.receiving.answer_all.Given as goal

-- the lines so far are answered, and the others are still to come
abbrev pub invariant-loop-number : goal.invariant-loop-number
invariant-loop-number g l =
    let x = l.initial.reception in
    let y = l.reception in
    let v = view_of g.S.Scrambler.meaning x.receiver in
    let w = given x.values.items x.block.items x.scores.items x.marks.items in
    record {
      answered : (each : List (List ℕ)) × (text : List ℕ) × (aside : List ℕ) × (length each ≡ l.number)
          × Received (g.K.Kind.scale x.kind) g.K.WrittenKind.written v w 1 each x.values.items y.values.items text
          × Announced v.scheme.block each aside × Appends (g.W.Write.contents l.initial.output) (g.W.Write.contents l.output) text × Appends (g.P.Write.contents l.initial.progress) (g.P.Write.contents l.progress) aside
          × ((input : List ℕ) → left g.R.Read.remaining l.initial.lines ≡ Some input → (rest : List ℕ) × (left g.R.Read.remaining l.lines ≡ Some rest) × (lines_of input ≡ each ++ lines_of rest));
      kept : view_of g.S.Scrambler.meaning y.receiver ≡ v;
      kind : y.kind ≡ x.kind;
      lengths : given y.values.items y.block.items y.scores.items y.marks.items ≡ w;
    }
