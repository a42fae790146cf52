use Rattle.std.proofs.Common.{◌≡◌, ℕ, List, ◌++◌, length, vec_len, refl, ap, ◌∙◌, subst, arith}
use Rattle.std.proofs.KnownBytes.{Appends-trans}
use Rattle.std.specs.Io.KnownBytes.{Appends}
use Rattle.lines.proofs.Following.{on_ok, new_reader}
use Rattle.receiver.specs.Receivers.{view_of}
use Rattle.replay.specs.Given.{given}
use Rattle.reception.specs.Receiving.{announcement, Last}
use Rattle.reception.proofs.receiving.receive.Goals as goal

pub returns : goal.returns
returns g c =
    let x = c.args.reception.now in
    let y = c.answer_all.new.reception in
    let scale = g.K.Kind.scale in
    let written = g.K.WrittenKind.written in
    let v = view_of g.S.Scrambler.meaning x.receiver in
    let e = c.in_ok-answer_all.ensures in
    let a = e.received in
    let held = c.in_ok-reader.ensures in
    let begun = c.new-lines.ensures ∙ new_reader g.R.Read.remaining c.in_ok-reader.reader c.args.input held.capacity held.empty held.inner in
    let wholly = given y.values.items y.block.items y.scores.items y.marks.items in
    let seen = view_of g.S.Scrambler.meaning y.receiver in
    let aside = g.P.Write.contents in
    let held : vec_len y.block ≡ seen.scheme.block = y.bits in
    let long : length y.block.items ≡ seen.scheme.block = omega (arith, y.block.ok.0, held) in
    let last : Appends (aside c.answer_all.new.progress) (aside c.announce.new.progress) (announcement v.scheme.block) =
    subst (λ n. Appends (aside c.answer_all.new.progress) (aside c.announce.new.progress) (announcement n)) (ap length c.block.ensures ∙ long ∙ ap (λ q. q.scheme.block) e.kept) c.in_ok-announce.ensures in
    on_ok c.show_last.result ((text : List ℕ) × Last (scale y.kind) written seen wholly y.values.items text × Appends (g.W.Write.contents c.answer_all.new.output) (g.W.Write.contents c.show_last.new.output) text) _ (λ b.
    let by_kind = subst (λ q. Last (scale q) written seen wholly y.values.items b.0) e.kind b.1 in
    let by_view = subst (λ q. Last (scale x.kind) written q wholly y.values.items b.0) e.kept by_kind in
    let by_lengths = subst (λ q. Last (scale x.kind) written v q y.values.items b.0) e.lengths by_view in (
      a.1 ++ b.0,
      a.2 ++ announcement v.scheme.block,
      record { lines = a.0; left = y.values.items; body = a.1; end = b.0; begun = a.2; every = λ bytes f. a.7 bytes (begun ∙ f); received = a.3; shown = by_lengths; all = refl; announced = a.4; beside = refl },
      Appends-trans _ _ _ a.1 b.0 a.5 b.2,
      Appends-trans _ _ _ a.2 _ a.6 last,
    )) c.show_last.ensures
