-- The coding scheme of a plan.
-- Assumes nothing.
use Rattle.plan.specs.Scheme.{Scheme}
use Rattle.plan.specs.Parts.{scheme}
use Rattle.plan.specs.declared.plan.Plan.{Plan}

abbrev pub plan_scheme : Plan → Scheme
plan_scheme p = scheme p.parts
