use Rattle.std.proofs.Common.{rules, length, sym, ◌≡◌, w16, to_z, of_z}
use Rattle.receiver.specs.Calls.{hear_answer, note_answer, blank_answer}
use Rattle.receiver.specs.Values.{after_hear, after_note, after_blank}
use Rattle.session.proofs.session.Session.carry_out.Goals as goal

pub returns-in-Hear : goal.returns-in-Hear
returns-in-Hear c =
    let place = c.in-Hear.place in
    let index = c.in-Hear.index in
    let weight = c.in-Hear.weight in
    let d = c.call.ensures (λ v l. hear_answer v (length l) place index weight) (λ v l. after_hear v place index weight l) (λ x m r y n met. record { answer = search rules; after = search rules }) in
    rw c.in-Hear.is (record { answer = d.answer; after = d.after; reply = d.reply })

pub returns-in-Note : goal.returns-in-Note
returns-in-Note c =
    let location = c.in-Note.location in
    let value = c.in-Note.value in
    let same : to_z w16 (of_z w16 value) ≡ value = search rules in
    let d = c.call-in-Note.ensures (λ v l. note_answer v.scheme (length l) location value) (λ v l. after_note location value l) (λ x m r y n met. rw (sym same) (record { answer = search rules; after = search rules })) in
    rw c.in-Note.is (record { answer = d.answer; after = d.after; reply = d.reply })

pub returns-in-Blank : goal.returns-in-Blank
returns-in-Blank c =
    let place = c.in-Blank.place in
    let d = c.call-in-Blank.ensures (λ v l. blank_answer v.scheme (length l) place) (λ v l. after_blank v.scheme place l) (λ x m r y n met. record { answer = search rules; after = search rules }) in
    rw c.in-Blank.is (record { answer = d.answer; after = d.after; reply = d.reply })
