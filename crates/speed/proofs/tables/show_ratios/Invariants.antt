use Rattle.plan.specs.Plans.{plan_scheme}
use Rattle.speed.specs.Tables.{AllKinds}
use Rattle.speed.proofs.Tabled.{Shown}
use Rattle.speed.proofs.tables.show_ratios.Given as goal

-- the lines of the ratios so far are written
abbrev pub invariant-loop-decibels : goal.invariant-loop-decibels
invariant-loop-decibels g l = Shown (AllKinds (plan_scheme l.plan)) l.ratios l.decibels-index (g.W.Write.contents l.fn.output) (g.W.Write.contents l.output)
