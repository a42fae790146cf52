use Rattle.std.proofs.Common.{◌≡◌, ◌+◌, ◌-◌, ◌^◌, ◌<◌, ◌≤◌, [], ◌∷◌, ◌++◌, length, true, false, Ok, sym, refl, ap, ◌∙◌, subst, append_assoc, arith, rules}
use Rattle.std.proofs.lemmas.List.{length_push}
use Rattle.std.proofs.KnownBytes.{Appends-nil, Appends-trans}
use Rattle.std.specs.declared.io.Error.{Error}
use Rattle.lines.specs.Streams.{lines_of, left, NextLine}
use Rattle.lines.proofs.Following.{all_lines, first_lines}
use Rattle.receiver.specs.Receivers.{view_of}
use Rattle.replay.specs.Given.{given}
use Rattle.reception.specs.Receiving.{Begins, Replied}
use Rattle.reception.proofs.Received.{announced_more, received_more}
use Rattle.reception.proofs.receiving.answer_all.Goals as goal

pub loop-number-init : goal.loop-number-init
loop-number-init g c = record {
  answered = ([], [], [], refl, (refl, refl), refl, Appends-nil _, Appends-nil _, λ input e. (input, e, refl));
  kept = refl;
  kind = refl;
  lengths = refl;
}

pub loop-number-preserved : goal.loop-number-preserved
loop-number-preserved g c =
    let x = c.args.reception.now in
    let y = c.loop-number.reception in
    let scale = g.K.Kind.scale in
    let written = g.K.WrittenKind.written in
    let seen = view_of g.S.Scrambler.meaning y.receiver in
    let v = view_of g.S.Scrambler.meaning x.receiver in
    let w = given x.values.items x.block.items x.scores.items x.marks.items in
    let inv = c.loop-number.invariant in
    let a = inv.answered in
    let number = c.loop-number.number + 1 in
    let remaining = g.R.Read.remaining in
    let n : NextLine {E = Error} (left remaining c.loop-number.lines) (left remaining c.advance.new.self) c.advance.new.self.line.kept.items (Ok true) =
    subst (NextLine {E = Error} (left remaining c.loop-number.lines) (left remaining c.advance.new.self) c.advance.new.self.line.kept.items) (c.in_ok-advance.was ∙ ap Ok c.if-not-branch.false) c.advance.ensures in
    let r = c.in_ok-answer.ensures.replied n.0 (c.line.ensures ∙ n.1) in
    let now = c.answer.new.reception.values.items in
    let by_kind = subst (λ q. Replied (scale q) written seen (given y.values.items y.block.items y.scores.items y.marks.items) number n.0 y.values.items now r.0) inv.kind r.2 in
    let by_view = subst (λ q. Replied (scale x.kind) written q (given y.values.items y.block.items y.scores.items y.marks.items) number n.0 y.values.items now r.0) inv.kept by_kind in
    let by_lengths = subst (λ q. Replied (scale x.kind) written v q number n.0 y.values.items now r.0) inv.lengths by_view in
    let by_number = subst (λ m. Replied (scale x.kind) written v w m n.0 y.values.items now r.0) (let e : number ≡ 1 + length a.0 = omega (arith, a.3) in e) by_lengths in
    let begins = subst (λ q. Begins q.scheme.block n.0 r.1) inv.kept r.3 in
    record {
      answered = (
        a.0 ++ (n.0 ∷ []),
        a.1 ++ r.0,
        a.2 ++ r.1,
        omega (arith, a.3, length_push a.0 n.0),
        received_more (scale x.kind) written v w 1 a.0 n.0 x.values.items y.values.items now a.1 r.0 a.4 by_number,
        announced_more v.scheme.block a.0 n.0 a.2 r.1 a.5 begins,
        Appends-trans _ _ _ a.1 r.0 a.6 r.4,
        Appends-trans _ _ _ a.2 r.1 a.7 r.5,
        λ input e. let i = a.8 input e in
            let k = n.2 i.0 i.1 in
            (k.0, k.1, i.2 ∙ ap (λ l. a.0 ++ l) k.2 ∙ sym (append_assoc a.0 (n.0 ∷ []) (lines_of k.0))),
      );
      kept = c.in_ok-answer.ensures.kept ∙ inv.kept;
      kind = c.in_ok-answer.ensures.kind ∙ inv.kind;
      lengths = c.in_ok-answer.ensures.lengths ∙ inv.lengths;
    }

pub returns-then-not-branch-clause-received : goal.returns-then-not-branch-clause-received
returns-then-not-branch-clause-received g c =
    let remaining = g.R.Read.remaining in
    let a = c.loop-number.invariant.answered in
    let near : c.loop-number.number < 2 ^ 64 - 1 = search rules in
    let few : length a.0 ≤ 2 ^ 64 - 1 = omega (arith, a.3, near) in
    let n : NextLine {E = Error} (left remaining c.loop-number.lines) (left remaining c.advance.new.self) c.advance.new.self.line.kept.items (Ok false) =
    subst (NextLine {E = Error} (left remaining c.loop-number.lines) (left remaining c.advance.new.self) c.advance.new.self.line.kept.items) (c.in_ok-advance.was ∙ ap Ok c.if-not-branch.true) c.advance.ensures in
    (a.0, a.1, a.2, a.4, a.5, a.6, a.7, λ input e. let i = a.8 input e in all_lines (2 ^ 64 - 1) (lines_of input) a.0 (lines_of i.0) i.2 (n i.0 i.1) few)

pub returns-clause-received : goal.returns-clause-received
returns-clause-received g c =
    let a = c.loop-number.invariant.answered in
    let done : c.loop-number.number ≡ 2 ^ 64 - 1 = search rules in
    (a.0, a.1, a.2, a.4, a.5, a.6, a.7, λ input e. let i = a.8 input e in first_lines (2 ^ 64 - 1) (lines_of input) a.0 (lines_of i.0) i.2 (a.3 ∙ done))
