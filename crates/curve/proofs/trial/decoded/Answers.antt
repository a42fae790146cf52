use Rattle.std.proofs.Common.{◌≡◌, ◌*◌, ◌/◌, ◌^◌, ◌≤◌, is_ok, Ok, ap, ◌∙◌, pow_mono, arith}
use Rattle.code.specs.Numbers.{bits_of}
use Rattle.plan.specs.Plans.{plan_scheme}
use Rattle.receiver.specs.Receivers.{view}
use Rattle.replay.specs.Ledger.{ledger}
use Rattle.score.specs.Blocks.{value_at}
use Rattle.score.specs.Kinds.{total_scale}
use Rattle.scrambler.specs.Meanings.{table_meaning}
use Rattle.search.specs.Looking.{shown}
use Rattle.curve.proofs.Tried.{given_enough, promised}
use Rattle.curve.proofs.trial.decoded.Goals as goal

pub returns-clause-promise : goal.returns-clause-promise
returns-clause-promise c =
    let s = plan_scheme c.args.plan in
    let states = c.of-trellis.ensures.memory in
    let size = c.of-trellis.ensures.size in
    let small : 2 ^ c.of-trellis.result.memory ≤ 2 ^ 8 = pow_mono c.of-trellis.result.small in
    let twice : c.saturating_mul.result ≡ 2 ^ c.of-trellis.result.memory * 2 = omega (arith, c.saturating_mul.ensures, c.states.ensures, small) in
    let lent = given_enough s c.as_mut_slice.result.now c.args.block.now c.as_mut_slice-2.result.now c.as_mut_slice-3.result.now
    (c.as_mut_slice.ensures.len ∙ c.in_ok-memory.ensures.len ∙ c.sent_length.ensures)
    c.requires
    (c.as_mut_slice-2.ensures.len ∙ c.in_ok-scores.ensures.len ∙ twice ∙ ap (λ m. 2 ^ m * 2) states)
    (c.as_mut_slice-3.ensures.len ∙ c.in_ok-marks.ensures.len ∙ c.mark_bytes.ensures ∙ (λ i. size i * 2 ^ states i / 8)) in
    let gave : c.in_ok-shown.field-0.shown ≡ Ok c.in_ok-shown-2.field-0 = c.in_ok-shown-2.was in
    promised c.in_ok-shown.field-0.shown c.in_ok-shown-2.field-0 (view c.args.plan (table_meaning c.args.table)) _ _ c.args.calls.now (bits_of c.replay.new.block)
    c.in_ok-shown.ensures.promise gave lent

pub returns-clause-shown : goal.returns-clause-shown
returns-clause-shown c =
    let s = plan_scheme c.args.plan in
    let states = c.of-trellis.ensures.memory in
    let size = c.of-trellis.ensures.size in
    let small : 2 ^ c.of-trellis.result.memory ≤ 2 ^ 8 = pow_mono c.of-trellis.result.small in
    let twice : c.saturating_mul.result ≡ 2 ^ c.of-trellis.result.memory * 2 = omega (arith, c.saturating_mul.ensures, c.states.ensures, small) in
    let lent = given_enough s c.as_mut_slice.result.now c.args.block.now c.as_mut_slice-2.result.now c.as_mut_slice-3.result.now
    (c.as_mut_slice.ensures.len ∙ c.in_ok-memory.ensures.len ∙ c.sent_length.ensures)
    c.requires
    (c.as_mut_slice-2.ensures.len ∙ c.in_ok-scores.ensures.len ∙ twice ∙ ap (λ m. 2 ^ m * 2) states)
    (c.as_mut_slice-3.ensures.len ∙ c.in_ok-marks.ensures.len ∙ c.mark_bytes.ensures ∙ (λ i. size i * 2 ^ states i / 8)) in
    let gave : c.in_ok-shown.field-0.shown ≡ Ok c.in_ok-shown-2.field-0 = c.in_ok-shown-2.was in
    c.in_ok-shown.ensures.written (ap is_ok gave)
    ∙ ap (λ l. shown total_scale (plan_scheme c.args.plan) (value_at (ledger (view c.args.plan (table_meaning c.args.table)) l c.args.calls.now)) c.args.block.now) lent
