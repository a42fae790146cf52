use Rattle.std.proofs.Common.{◌≡◌, length, ap, arith}
use Rattle.std.proofs.lemmas.List.{with_items_is}
use Rattle.plan.proofs.Facts.{facts}
use Rattle.plan.specs.Plans.{plan_scheme}
use Rattle.plan.specs.Scheme.{sent_length}
use Rattle.receiver.specs.Receivers.{view, view_of}
use Rattle.reception.proofs.Taken.{made_ledger}
use Rattle.reception.proofs.reception.Reception.new.Goals as goal

pub returns-clause-zeros : goal.returns-clause-zeros
returns-clause-zeros g c =
    let s = plan_scheme c.args.plan in
    let meaning = g.S.Scrambler.meaning in
    let long : length c.as_mut_slice.result.now ≡ sent_length s = omega (arith, c.as_mut_slice.ensures.len, c.in_ok-values.ensures.len, c.sent_length.ensures, ap length c.as_mut_slice.ensures.value) in
    made_ledger (view_of meaning c.in_ok-receiver.receiver) (view c.args.plan (meaning c.args.scrambler)) (facts s c.args.plan.accepted) c.in_ok-receiver.ensures.made _
    c.as_mut_slice.result.now c.new.new.memory _ long c.new.auto.memory c.in_ok-receiver.ensures.after (with_items_is c.in_ok-values.values c.new.new.memory (omega arith))
