use Rattle.std.proofs.Common.{length, arith}
use Rattle.std.proofs.lemmas.Bool.{leb-true}
use Rattle.plan.specs.Plans.{plan_scheme}
use Rattle.plan.specs.Scheme.{sent_length}
use Rattle.receiver.proofs.Runs.{run_cleared}
use Rattle.receiver.proofs.receiver.Receiver.blank.Goals as goal

pub returns-clause-after : goal.returns-clause-after
returns-clause-after g c =
    let s = plan_scheme c.args.self.now.plan in
    let run = c.in_ok-locations.ensures.run in
    let lent = leb-true (sent_length s) (length c.args.memory.now) c.in_ok-check_memory.ensures in
    run_cleared c.args.memory.now c.fill.new.self c.in_ok-locations.locations.start c.in_ok-locations.locations.end _ s.bits run.0 run.1 (omega (arith, run.2, lent)) (c.fill.ensures.after (λ y h. h))
