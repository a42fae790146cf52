use Rattle.std.proofs.Common.{◌≡◌, ◌%◌, ◌≤◌, slice_index, refl, sym, ap, subst, ◌∙◌, arith}
use Rattle.std.specs.Option.{unwrap_or}
use Rattle.channel.specs.Airs.{arrived}
use Rattle.channel.specs.Plane.{phase_point, decided}
use Rattle.plan.specs.Plans.{plan_scheme}
use Rattle.plan.proofs.Facts.{facts}
use Rattle.replay.specs.declared.call.Call.TheVariants.{Hear}
use Rattle.scrambler.specs.Meanings.{table_meaning}
use Rattle.sender.specs.Transmission.{value_for}
use Rattle.curve.specs.Calls.{hearing}
use Rattle.curve.proofs.Turns.{rem_or_zero, value_or_zero}
use Rattle.curve.proofs.calls.OnAir.hearing.Goals as goal

pub returns-clause-call : goal.returns-clause-call
unfolding hearing
returns-clause-call c =
    let s = plan_scheme c.args.self.now.plan.now in
    let m = table_meaning c.args.table.now in
    let air = c.args.air.now in
    let place = c.args.place in
    let frame : c.parts.result.now.frame_length ≡ s.frame = ap (λ p. p.frame_length) c.parts.ensures in
    let some : 1 ≤ s.frame = (facts s c.args.self.now.plan.now.accepted).frame_low in
    let in_frame : c.unwrap_or-in_frame.result ≡ place % s.frame =
    c.unwrap_or-in_frame.ensures
    ∙ rem_or_zero c.checked_rem.result place c.parts.result.now.frame_length c.checked_rem.ensures (subst (λ f. 1 ≤ f) (sym frame) some)
    ∙ ap (λ f. place % f) frame in
    let value : c.unwrap_or-value.result ≡ value_for s m place =
    c.unwrap_or-value.ensures ∙ (λ i. unwrap_or (c.value.ensures.value i) 0) ∙ value_or_zero m c.unwrap_or-in_frame.result ∙ ap (slice_index m.values) in_frame in
    let sent : c.unwrap_or-sent.result ≡ slice_index c.args.self.now.indices.now place =
    c.unwrap_or-sent.ensures ∙ ap (λ o. unwrap_or o 0) c.copied.ensures ∙ c.get.ensures.lookup.4 (omega arith) 0 in
    let heard : c.in_ok-heard.heard ≡ decided s.bits (value_for s m place) (arrived air (phase_point (slice_index c.args.self.now.indices.now place))) =
    c.in_ok-heard.ensures.heard ∙ (λ i. decided s.bits (value i) (arrived air (phase_point (sent i)))) in
    λ i. Hear (c.sent_length.ensures i) place (heard i).index (heard i).weight

pub returns-clause-air : goal.returns-clause-air
returns-clause-air c = c.in_ok-heard.ensures.after refl
