use Rattle.plan.specs.Plans.{plan_scheme}
use Rattle.code.proofs.Pairs.{tail_biting}
use Rattle.code.proofs.encoder.encode.Goals as goal

pub returns-in_err-block-clause-rotates : goal.returns-in_err-block-clause-rotates
returns-in_err-block-clause-rotates c = tail_biting (plan_scheme c.args.plan.now)

pub returns-then-word-len-clause-rotates : goal.returns-then-word-len-clause-rotates
returns-then-word-len-clause-rotates c = tail_biting (plan_scheme c.args.plan.now)

pub returns-clause-rotates : goal.returns-clause-rotates
returns-clause-rotates c = tail_biting (plan_scheme c.args.plan.now)
