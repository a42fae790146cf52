use Rattle.std.proofs.Common.{◌≡◌, ℕ, [], List, length, vec_len, true≢false, refl, sym, ap, ◌∙◌, subst, arith}
use Rattle.std.proofs.KnownBytes.{Keeps-refl, Appends-nil, Appends-kept, Appends-trans}
use Rattle.std.specs.Io.KnownBytes.{Appends, Keeps}
use Rattle.lines.proofs.Following.{on_ok}
use Rattle.receiver.specs.Receivers.{view_of}
use Rattle.replay.specs.Given.{given}
use Rattle.reception.specs.Receiving.{announcement, Begins, Replied}
use Rattle.reception.proofs.Received.{begins_look, begins_none}
use Rattle.reception.proofs.receiving.answer.Goals as goal
use Rattle.reception.proofs.receiving.answer.Goals.{then-is_look+in_ok-flush+in_ok-announce, else-is_look}

pub returns-clause-replied : goal.returns-clause-replied
returns-clause-replied g c whole kept =
    let x = c.args.reception.now in
    let said = c.read_line-said.result in
    let bits = (view_of g.S.Scrambler.meaning x.receiver).scheme.block in
    let written = g.W.Write.contents in
    let aside = g.P.Write.contents in
    let held : vec_len x.block ≡ bits = x.bits in
    let long : length x.block.items ≡ bits = omega (arith, x.block.ok.0, held) in
    let reads = c.read_line-said.ensures whole kept in
    let before : (text : List ℕ) × Begins bits whole text × Keeps (written c.args.output.now) (written c.if-is_look.output) × Appends (aside c.args.progress.now) (aside c.if-is_look.progress) text =
    elim c.if-is_look.branch [
      | then-is_look+in_ok-flush+in_ok-announce b ↦ (
        announcement bits,
        begins_look bits whole said reads (b.if-is_look.ensures.0 refl),
        subst (λ o. Keeps (written c.args.output.now) (written o)) (sym b.output-is) b.flush.ensures.bytes,
        subst (λ o. Appends (aside c.args.progress.now) (aside o) (announcement bits)) (sym b.progress-is)
            (subst (λ n. Appends (aside c.args.progress.now) (aside b.announce.new.progress) (announcement n)) (ap length b.block.ensures ∙ long) b.in_ok-announce.ensures),
      )
      | else-is_look b ↦ (
        [],
        begins_none bits whole said reads (λ is. true≢false (sym (b.if-is_look.ensures.1 is))),
        subst (λ o. Keeps (written c.args.output.now) (written o)) (sym b.output-is) (Keeps-refl _),
        subst (λ o. Appends (aside c.args.progress.now) (aside o) []) (sym b.progress-is) (Appends-nil _),
      )
    ] in
    on_ok c.reply.result ((said : List ℕ) × Replied (g.K.Kind.scale x.kind) g.K.WrittenKind.written (view_of g.S.Scrambler.meaning x.receiver) (given x.values.items x.block.items x.scores.items x.marks.items) c.args.number whole x.values.items c.reply.new.reception.values.items said × Appends (written c.if-is_look.output) (written c.reply.new.output) said) _
    (λ r. (r.0, before.0, r.1, before.1, Appends-trans _ _ _ [] r.0 (Appends-kept _ _ _ [] (Appends-nil _) before.2) r.2, before.3))
    (c.reply.ensures.replied whole reads)
