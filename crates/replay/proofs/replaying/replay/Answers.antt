use Rattle.std.proofs.Common.{◌≡◌, ◌≢◌, ◌-◌, ◌/◌, false, cond, length, take, drop, is_ok, Ok, sym, refl, ap, ◌∙◌, subst}
use Rattle.std.proofs.lemmas.Bool.{true≢false, cond-false}
use Rattle.plan.specs.Faults.{chain_number, outcome}
use Rattle.plan.specs.Plans.{plan_scheme}
use Rattle.plan.specs.Scheme.{sent_length}
use Rattle.plan.proofs.Facts.{facts}
use Rattle.receiver.specs.Calls.{making_answer}
use Rattle.receiver.specs.Receivers.{view, view_of}
use Rattle.receiver.specs.Values.{after_making}
use Rattle.score.specs.Blocks.{value_at}
use Rattle.search.specs.Looking.{search_answer, shown}
use Rattle.replay.specs.Given.{given}
use Rattle.replay.specs.Ledger.{answers, after_all, ledger}
use Rattle.replay.proofs.Kept.{ledger_front, ledger_rest}
use Rattle.replay.proofs.Looked.{refused_is, shown_rest, shown_over}
use Rattle.replay.proofs.Whole.{making_yes, made_of, lent_whole, promise_made}
use Rattle.replay.proofs.replaying.replay.Goals as goal

pub returns : goal.returns
returns g c =
    let a = c.args in
    let meaning = g.S.Scrambler.meaning in
    let v = view a.plan (meaning a.scrambler) in
    let s = plan_scheme a.plan in
    let k = g.K.Kind.scale a.kind.now in
    let known = facts s a.plan.accepted in
    let calls = a.calls.now in
    let memory = a.memory.now in
    let block = a.block.now in
    let whole = given memory block a.scores.now a.marks.now in
    let receiver = c.in_ok-receiver.receiver in
    let was : c.new.result ≡ Ok receiver = c.in_ok-receiver.was in
    let yes_said : making_answer v (length memory) ≡ 0 = sym c.new.ensures.answer ∙ ap (outcome chain_number) was in
    let making = making_yes v (length memory) yes_said in
    let view_made : view_of meaning receiver ≡ v = made_of c.new.result receiver (λ x. view_of meaning x ≡ v) was c.new.ensures.made in
    let zeros : c.new.new.memory ≡ after_making s memory = c.new.ensures.after ∙ ap (λ r. cond (is_ok r) (after_making s memory) memory) was in
    let view_run : view_of meaning c.run.new.receiver ≡ v = c.run.ensures.kept ∙ view_made in
    let whole_made : given c.new.new.memory block a.scores.now a.marks.now ≡ whole =
    (λ x. record { values = c.new.auto.memory x; block = length block; old = length a.scores.now / 2; new = length a.scores.now - length a.scores.now / 2; marks = length a.marks.now }) in
    let all : c.run.new.memory ≡ after_all v whole calls (after_making s memory) =
    c.run.ensures.after ∙ (λ x. after_all (view_made x) (whole_made x) calls (zeros x)) in
    let front = ledger_front v known whole calls memory c.run.new.memory making.1 all in
    let lent = lent_whole memory c.run.new.memory block c.run.new.block a.scores.now c.run.new.scores a.marks.now c.run.new.marks
    (c.run.auto.memory ∙ c.new.auto.memory) c.run.auto.block c.run.auto.scores c.run.auto.marks in
    let past_run : drop s.block c.run.new.block ≡ drop s.block block =
    subst (λ n. drop n c.run.new.block ≡ drop n block) (ap (λ w. w.scheme.block) view_made) c.run.ensures.rest in
    let short_made : search_answer (view_of meaning receiver).scheme (given c.new.new.memory block a.scores.now a.marks.now) ≡ search_answer s whole =
    (λ x. search_answer (view_made x).scheme (whole_made x)) in
    let looked : outcome chain_number c.look_lent-shown.result ≡ search_answer s whole =
    c.look_lent-shown.ensures.answer ∙ (λ x. search_answer (view_run x).scheme (lent x)) in
    let block_shown : c.look_lent-shown.new.block ≡ cond (is_ok c.look_lent-shown.result) (shown k s (value_at (ledger v whole calls)) c.run.new.block) c.run.new.block =
    c.look_lent-shown.ensures.block
    ∙ (λ x. cond (is_ok c.look_lent-shown.result) (shown k (view_run x).scheme (value_at (take (sent_length (view_run x).scheme) c.run.new.memory)) c.run.new.block) c.run.new.block)
    ∙ ap (λ l. cond (is_ok c.look_lent-shown.result) (shown k s (value_at l) c.run.new.block) c.run.new.block) front in
    let none_shown : is_ok c.look_lent-shown.result ≡ false → search_answer (view_of meaning receiver).scheme (given c.new.new.memory block a.scores.now a.marks.now) ≢ 0 =
    λ e z. refused_is c.look_lent-shown.result _ looked e (sym short_made ∙ z) in
    record {
      answer = λ _. sym yes_said;
      answers = c.run.ensures.answers ∙ (λ x. answers (view_made x) (whole_made x) calls);
      looked = looked;
      promise = promise_made k (g.met.K.Kind.lawful a.kind.now) v a.plan.accepted (g.met.S.Scrambler.bounded a.scrambler) making.0 whole calls
          c.look_lent-shown.result _ c.run.new.memory _ (ap (λ w. w.scheme) view_run) front c.look_lent-shown.ensures.found;
      written = shown_over k s c.look_lent-shown.result whole (value_at (ledger v whole calls)) block c.run.new.block c.look_lent-shown.new.block looked refl c.run.auto.block past_run block_shown;
      values = λ _. front;
      rest = ledger_rest v known whole calls memory c.run.new.memory all;
      past = shown_rest k s c.look_lent-shown.result _ c.run.new.block c.look_lent-shown.new.block block_shown ∙ past_run;
      memory = λ e. absurd (true≢false e);
      block = λ e. absurd (true≢false e);
      scores = λ e. absurd (true≢false e);
      marks = λ e. absurd (true≢false e);
      unwritten = λ e. block_shown ∙ cond-false _ _ _ e ∙ c.run.ensures.block (none_shown e);
      unmarked = λ e. c.look_lent-shown.ensures.marks e ∙ c.run.ensures.marks (none_shown e);
    }
