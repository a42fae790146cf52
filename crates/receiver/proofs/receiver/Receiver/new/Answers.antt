use Rattle.std.proofs.Common.{length, refl, arith}
use Rattle.std.proofs.lemmas.Bool.{leb-true}
use Rattle.plan.specs.Plans.{plan_scheme}
use Rattle.plan.specs.Scheme.{sent_length}
use Rattle.receiver.proofs.Runs.{run_cleared}
use Rattle.receiver.proofs.receiver.Receiver.new.Goals as goal

pub returns-clause-after : goal.returns-clause-after
returns-clause-after g c =
    let n = sent_length (plan_scheme c.args.plan) in
    let lent = leb-true n (length c.args.memory.now) c.in_ok-check_memory.ensures in
    run_cleared c.args.memory.now c.fill.new.self 0 c.sent_length.result 0 n refl (omega arith) (omega arith) (c.fill.ensures.after (λ y h. h))
