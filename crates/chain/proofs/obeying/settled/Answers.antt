use Rattle.plan.specs.Plans.{plan_scheme}
use Rattle.chain.proofs.Obeyed.{settled_some}
use Rattle.chain.proofs.obeying.settled.Goals as goal

pub returns-in_ok-opened-in-Some : goal.returns-in_ok-opened-in-Some
returns-in_ok-opened-in-Some c = settled_some c.scrambler.result (plan_scheme c.args.plan.now) c.args.settings.table c.in-Some.name c.in-Some.is
