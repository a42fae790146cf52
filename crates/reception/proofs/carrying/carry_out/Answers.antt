use Rattle.std.proofs.Common.{◌≡◌, min, cond, length, is_ok, ap, ◌∙◌, rules, arith, w16, to_z, of_z}
use Rattle.entries.specs.declared.entry.Entry.TheVariants.{Hear, Note, Blank}
use Rattle.plan.proofs.Facts.{facts}
use Rattle.receiver.specs.Calls.{hear_answer, note_answer, blank_answer}
use Rattle.receiver.specs.Receivers.{view_of}
use Rattle.receiver.specs.Values.{after_note}
use Rattle.reception.specs.Taking.{call_of}
use Rattle.reception.proofs.Taken.{taken, whole_after}
use Rattle.reception.proofs.carrying.carry_out.Goals as goal
use Rattle.replay.specs.Given.{given}

pub returns-in-Hear-clause-takes : goal.returns-in-Hear-clause-takes
returns-in-Hear-clause-takes g c =
    let a = c.args in
    let v = view_of g.S.Scrambler.meaning a.receiver.now in
    let values = a.values.now in
    let whole = given values a.block.now a.scores.now a.marks.now in
    let long : length values ≡ min (length values) (length values) = omega arith in
    let e = Hear c.in-Hear.place c.in-Hear.index c.in-Hear.weight in
    let said = c.hear.ensures.answer ∙ ap (λ l. hear_answer v l c.in-Hear.place c.in-Hear.index c.in-Hear.weight) long in
    rw c.in-Hear.is
    (taken v whole (g.K.Kind.scale a.kind.now) values c.hear.new.memory e c.unshown.result a.block.now (c.unshown.ensures.answer ∙ said)
    (whole_after v whole (facts v.scheme a.receiver.now.plan.accepted) (call_of whole e) c.hear.result values c.hear.new.memory long said c.hear.ensures.after)
    c.unshown.ensures.none)

pub returns-in-Note-clause-takes : goal.returns-in-Note-clause-takes
returns-in-Note-clause-takes g c =
    let a = c.args in
    let v = view_of g.S.Scrambler.meaning a.receiver.now in
    let values = a.values.now in
    let whole = given values a.block.now a.scores.now a.marks.now in
    let long : length values ≡ min (length values) (length values) = omega arith in
    let e = Note c.in-Note.location c.in-Note.value in
    let value : to_z w16 (of_z w16 c.in-Note.value) ≡ c.in-Note.value = search rules in
    let said = c.note.ensures.answer ∙ (λ i. note_answer v.scheme (long i) c.in-Note.location (value i)) in
    rw c.in-Note.is
    (taken v whole (g.K.Kind.scale a.kind.now) values c.note.new.memory e c.unshown-in-Note.result a.block.now (c.unshown-in-Note.ensures.answer ∙ said)
    (whole_after v whole (facts v.scheme a.receiver.now.plan.accepted) (call_of whole e) c.note.result values c.note.new.memory long said
    (c.note.ensures.after ∙ ap (λ z. cond (is_ok c.note.result) (after_note c.in-Note.location z values) values) value))
    c.unshown-in-Note.ensures.none)

pub returns-in-Blank-clause-takes : goal.returns-in-Blank-clause-takes
returns-in-Blank-clause-takes g c =
    let a = c.args in
    let v = view_of g.S.Scrambler.meaning a.receiver.now in
    let values = a.values.now in
    let whole = given values a.block.now a.scores.now a.marks.now in
    let long : length values ≡ min (length values) (length values) = omega arith in
    let e = Blank c.in-Blank.place in
    let said = c.blank.ensures.answer ∙ ap (λ l. blank_answer v.scheme l c.in-Blank.place) long in
    rw c.in-Blank.is
    (taken v whole (g.K.Kind.scale a.kind.now) values c.blank.new.memory e c.unshown-in-Blank.result a.block.now (c.unshown-in-Blank.ensures.answer ∙ said)
    (whole_after v whole (facts v.scheme a.receiver.now.plan.accepted) (call_of whole e) c.blank.result values c.blank.new.memory long said c.blank.ensures.after)
    c.unshown-in-Blank.ensures.none)
