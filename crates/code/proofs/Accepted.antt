-- What was asked when a plan was made.
-- Assumes nothing.
use Rattle.plan.specs.Plans.{plan_scheme}
use Rattle.plan.specs.declared.plan.Plan.{Plan}
use Rattle.plan.proofs.Facts.{Facts, facts}

-- the facts of a plan's coding scheme
pub facts_of : (p : Plan) → Facts (plan_scheme p)
facts_of p = facts (plan_scheme p) p.accepted
