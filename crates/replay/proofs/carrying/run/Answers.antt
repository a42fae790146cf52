use Rattle.std.proofs.Common.{◌≡◌, ◌+◌, ◌-◌, ◌/◌, ◌<◌, true, length, get_or, drop, is_ok, vec_items, vec_len, vec_capacity, sym, refl, ap, ◌∙◌, subst, arith}
use Rattle.std.proofs.lemmas.Bool.{cond-true}
use Rattle.receiver.specs.Receivers.{view_of}
use Rattle.search.specs.Looking.{search_answer}
use Rattle.replay.specs.Given.{given}
use Rattle.replay.specs.Ledger.{answer, after}
use Rattle.replay.specs.declared.call.Call.TheVariants.{Hear}
use Rattle.replay.proofs.Carried.{none_carried, one_more, all_carried}
use Rattle.replay.proofs.carrying.run.Goals as goal

pub loop-call-init : goal.loop-call-init
loop-call-init g c =
    let a = c.args in
    let v = view_of g.S.Scrambler.meaning a.receiver.now in
    let whole = given a.memory.now a.block.now a.scores.now a.marks.now in
    (refl, none_carried v whole a.calls.now a.memory.now a.block.now (vec_items a.answers.now) c.requires.empty, (a.answers.now.ok.0 ∙ ap length c.requires.empty), c.requires.room, λ _. (refl, refl))

pub loop-call-preserved : goal.loop-call-preserved
loop-call-preserved g c =
    let a = c.args in
    let v = view_of g.S.Scrambler.meaning a.receiver.now in
    let whole = given a.memory.now a.block.now a.scores.now a.marks.now in
    let turn = c.loop-call in
    let kept = turn.auto in
    let was = turn.invariant in
    let whole_is : given turn.memory turn.block turn.scores turn.marks ≡ whole =
    (λ x. record { values = kept.memory x; block = kept.block x; old = kept.scores x / 2; new = kept.scores x - kept.scores x / 2; marks = kept.marks x }) in
    let lt : turn.call-index < length a.calls.now = c.loop-call-test.true in
    let room : vec_len turn.answers < vec_capacity turn.answers = omega (arith, was.2, was.3) in
    let pushed : is_ok c.push.result ≡ true = c.push.ensures.succeeds room in
    let call = get_or a.calls.now turn.call-index (Hear 0 0 0 0) in
    let said = vec_items turn.answers in
    let r = c.carry_out-answer.result in
    let answered = c.carry_out-answer.ensures.answer in
    let changes = c.carry_out-answer.ensures.after in (
      c.carry_out-answer.ensures.kept ∙ was.0,
      one_more v whole a.calls.now a.memory.now a.block.now turn.call-index (Hear 0 0 0 0) turn.memory c.carry_out-answer.new.memory turn.block c.carry_out-answer.new.block said (vec_items c.push.new.self) r was.1 lt
          (answered ∙ (λ x. answer (was.0 x) (whole_is x) call))
          (changes ∙ (λ x. after (was.0 x) (whole_is x) call turn.memory))
          (subst (λ n. drop n c.carry_out-answer.new.block ≡ drop n turn.block) (ap (λ w. w.scheme.block) was.0) c.carry_out-answer.ensures.rest)
          (c.push.ensures.items ∙ cond-true _ _ _ pushed),
      c.push.ensures.len ∙ cond-true _ _ _ pushed ∙ ap (λ n. n + 1) was.2,
      (let more = c.push.ensures.capacity in omega (arith, more, was.3)),
      λ short. (let still = λ (e : search_answer (view_of g.S.Scrambler.meaning turn.receiver).scheme (given turn.memory turn.block turn.scores turn.marks) ≡ 0). short ((λ x. search_answer (sym was.0 x).scheme (sym whole_is x)) ∙ e) in
          (c.carry_out-answer.ensures.block still ∙ (was.4 short).0, c.carry_out-answer.ensures.marks still ∙ (was.4 short).1)),
    )

pub returns : goal.returns
returns g c =
    let a = c.args in
    let v = view_of g.S.Scrambler.meaning a.receiver.now in
    let whole = given a.memory.now a.block.now a.scores.now a.marks.now in
    let turn = c.loop-call in
    let done = all_carried v whole a.calls.now a.memory.now a.block.now turn.call-index turn.memory turn.block (vec_items turn.answers) c.loop-call-test.false turn.invariant.1 in
    record { answers = done.answered; after = done.values; rest = done.rest; block = λ short. (turn.invariant.4 short).0; marks = λ short. (turn.invariant.4 short).1; kept = turn.invariant.0 }
