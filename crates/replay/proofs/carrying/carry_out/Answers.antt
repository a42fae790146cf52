use Rattle.std.proofs.Common.{rules, ◌≡◌, cond, min, length, take, is_ok, sym, refl, ap, ◌∙◌, arith, w16, to_z, of_z}
use Rattle.std.proofs.lemmas.List.{take-append-drop}
use Rattle.std.proofs.lemmas.Bool.{cond-false}
use Rattle.plan.specs.Faults.{chain_number, outcome}
use Rattle.plan.specs.Plans.{plan_scheme}
use Rattle.plan.proofs.Facts.{facts}
use Rattle.search.specs.Looking.{search_answer}
use Rattle.receiver.specs.Calls.{hear_answer, note_answer, blank_answer}
use Rattle.receiver.specs.Receivers.{view_of}
use Rattle.receiver.specs.Values.{after_note}
use Rattle.replay.specs.Given.{given}
use Rattle.replay.specs.Ledger.{values_lent, lent_of, answer}
use Rattle.replay.specs.declared.call.Call.TheVariants.{Hear, Note, Blank}
use Rattle.replay.proofs.Carried.{look_keeps}
use Rattle.replay.proofs.Kept.{part_long, lent_after}
use Rattle.replay.proofs.Looked.{look_refused, shown_rest}
use Rattle.replay.proofs.carrying.carry_out.Goals as goal

pub returns-in-Hear-clause-after : goal.returns-in-Hear-clause-after
returns-in-Hear-clause-after g c =
    let a = c.args in
    let v = view_of g.S.Scrambler.meaning a.receiver.now in
    let memory = a.memory.now in
    let whole = given memory a.block.now a.scores.now a.marks.now in
    let n = c.min-lent.result in
    let long : n ≡ min c.in-Hear.lent (length memory) = c.min-lent.ensures ∙ ap (λ k. min k (length memory)) (c.values_lent.ensures ∙ ap values_lent c.in-Hear.is) in
    rw c.in-Hear.is (lent_after v (facts v.scheme a.receiver.now.plan.accepted) whole (Hear c.in-Hear.lent c.in-Hear.place c.in-Hear.index c.in-Hear.weight) c.hear.result n memory c.hear.new.memory long
    (c.hear.ensures.answer ∙ ap (λ l. hear_answer v l c.in-Hear.place c.in-Hear.index c.in-Hear.weight) (part_long n c.in-Hear.lent memory long)) c.hear.ensures.after)

pub returns-in-Note-clause-after : goal.returns-in-Note-clause-after
returns-in-Note-clause-after g c =
    let a = c.args in
    let v = view_of g.S.Scrambler.meaning a.receiver.now in
    let memory = a.memory.now in
    let whole = given memory a.block.now a.scores.now a.marks.now in
    let n = c.min-lent.result in
    let long : n ≡ min c.in-Note.lent (length memory) = c.min-lent.ensures ∙ ap (λ k. min k (length memory)) (c.values_lent.ensures ∙ ap values_lent c.in-Note.is) in
    let value : to_z w16 (of_z w16 c.in-Note.value) ≡ c.in-Note.value = search rules in
    rw c.in-Note.is (lent_after v (facts v.scheme a.receiver.now.plan.accepted) whole (Note c.in-Note.lent c.in-Note.location c.in-Note.value) c.note.result n memory c.note.new.memory long
    (c.note.ensures.answer ∙ (λ i. note_answer v.scheme (part_long n c.in-Note.lent memory long i) c.in-Note.location (value i)))
    (c.note.ensures.after ∙ ap (λ z. cond (is_ok c.note.result) (after_note c.in-Note.location z (take n memory)) (take n memory)) value))

pub returns-in-Blank-clause-after : goal.returns-in-Blank-clause-after
returns-in-Blank-clause-after g c =
    let a = c.args in
    let v = view_of g.S.Scrambler.meaning a.receiver.now in
    let memory = a.memory.now in
    let whole = given memory a.block.now a.scores.now a.marks.now in
    let n = c.min-lent.result in
    let long : n ≡ min c.in-Blank.lent (length memory) = c.min-lent.ensures ∙ ap (λ k. min k (length memory)) (c.values_lent.ensures ∙ ap values_lent c.in-Blank.is) in
    rw c.in-Blank.is (lent_after v (facts v.scheme a.receiver.now.plan.accepted) whole (Blank c.in-Blank.lent c.in-Blank.place) c.blank.result n memory c.blank.new.memory long
    (c.blank.ensures.answer ∙ ap (λ l. blank_answer v.scheme l c.in-Blank.place) (part_long n c.in-Blank.lent memory long)) c.blank.ensures.after)

pub returns-in-Look : goal.returns-in-Look
returns-in-Look g c =
    let a = c.args in
    let v = view_of g.S.Scrambler.meaning a.receiver.now in
    let memory = a.memory.now in
    let whole = given memory a.block.now a.scores.now a.marks.now in
    let s = plan_scheme a.receiver.now.plan in
    let lent = c.in-Look.lent in
    let n = c.min-lent.result in
    let long : n ≡ min lent.memory (length memory) = c.min-lent.ensures ∙ ap (λ k. min k (length memory)) (c.values_lent.ensures ∙ ap values_lent c.in-Look.is) in
    let values : min lent.memory (length (take n memory)) ≡ min lent.memory (length memory) = omega (arith, part_long n lent.memory memory long) in
    let lengths : lent_of (given (take n memory) a.block.now a.scores.now a.marks.now) lent ≡ lent_of whole lent = ap (λ k. record (lent_of whole lent) { values = k }) values in
    let looked : outcome chain_number c.look_lent.result ≡ search_answer s (lent_of whole lent) = c.look_lent.ensures.answer ∙ ap (search_answer s) lengths in
    let said : outcome chain_number c.map.result ≡ outcome chain_number c.look_lent.result = search rules in
    let refused = look_refused s whole lent c.look_lent.result looked in
    record {
      answer = said ∙ looked ∙ sym (ap (answer v whole) c.in-Look.is);
      after = take-append-drop n memory ∙ look_keeps v whole lent a.call memory c.in-Look.is;
      rest = shown_rest (g.K.Kind.scale a.kind.now) s c.look_lent.result _ a.block.now _ c.look_lent.ensures.block;
      block = λ short. c.look_lent.ensures.block ∙ cond-false _ _ _ (refused short);
      marks = λ short. c.look_lent.ensures.marks (refused short);
      kept = refl;
    }
