use Rattle.std.proofs.Common.{◌≡◌, ◌-◌, ◌/◌, length, Some, Ok, Err, sym, refl, ap, ◌∙◌, subst, arith}
use Rattle.std.proofs.lemmas.Result.{err_from_is_err_and}
use Rattle.entries.specs.declared.entry.Entry.TheVariants.{Look}
use Rattle.plan.specs.Faults.{chain_number}
use Rattle.plan.specs.Plans.{plan_scheme}
use Rattle.receiver.specs.Receivers.{view_of}
use Rattle.reception.specs.Taking.{call_of, Takes}
use Rattle.reception.proofs.Taken.{taken, same_lent, block_shows}
use Rattle.reception.proofs.looking.look.Goals as goal
use Rattle.replay.specs.Given.{given}
use Rattle.replay.proofs.Carried.{look_keeps}
use Rattle.search.specs.Looking.{search_answer}

pub returns-in_err-score : goal.returns-in_err-score
returns-in_err-score g c =
    let a = c.args in
    let s = plan_scheme a.receiver.now.plan in
    let k = g.K.Kind.scale a.kind.now in
    let v = view_of g.S.Scrambler.meaning a.receiver.now in
    let whole = given a.values.now a.block.now a.scores.now a.marks.now in
    let scores = length a.scores.now in
    let front : length c.split_at_mut-first.result.0.now ≡ scores / 2 = omega (arith, c.split_at_mut-first.ensures.front_len) in
    let back : length c.split_at_mut-first.result.1.now ≡ scores - scores / 2 = omega (arith, c.split_at_mut-first.ensures.back_len) in
    let p = err_from_is_err_and c.from_residual.result c.from_residual.ensures.1 in
    subst (λ r. Takes k v whole a.values.now Look r a.values.now c.look.new.block) (sym p.1)
    (taken v whole k a.values.now a.values.now Look (Err p.0) c.look.new.block
    (ap chain_number p.2 ∙ c.in_err-score.ensures.answer
    ∙ (λ i. search_answer s (record { values = length a.values.now; block = length a.block.now; old = front i; new = back i; marks = length a.marks.now })) ∙ ap (search_answer s) (sym (same_lent v whole)))
    (look_keeps v whole _ (call_of whole Look) a.values.now refl)
    tt)

pub returns : goal.returns
returns g c =
    let a = c.args in
    let s = plan_scheme a.receiver.now.plan in
    let k = g.K.Kind.scale a.kind.now in
    let v = view_of g.S.Scrambler.meaning a.receiver.now in
    let whole = given a.values.now a.block.now a.scores.now a.marks.now in
    let scores = length a.scores.now in
    let front : length c.split_at_mut-first.result.0.now ≡ scores / 2 = omega (arith, c.split_at_mut-first.ensures.front_len) in
    let back : length c.split_at_mut-first.result.1.now ≡ scores - scores / 2 = omega (arith, c.split_at_mut-first.ensures.back_len) in
    let e = c.in_ok-score.ensures in
    taken v whole k a.values.now a.values.now Look (Ok (Some c.in_ok-score.score)) c.look.new.block
    (e.answer ∙ (λ i. search_answer s (record { values = length a.values.now; block = length a.block.now; old = front i; new = back i; marks = length a.marks.now })) ∙ ap (search_answer s) (sym (same_lent v whole)))
    (look_keeps v whole _ (call_of whole Look) a.values.now refl)
    (block_shows k (g.met.K.Kind.lawful a.kind.now) v a.receiver.now.plan.accepted (g.met.S.Scrambler.bounded a.receiver.now.scrambler) a.receiver.now.fit whole a.values.now a.block.now c.look.new.block c.in_ok-score.score
    c.requires.locations c.requires.bits e.found e.block)
