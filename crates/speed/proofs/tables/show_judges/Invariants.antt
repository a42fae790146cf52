use Rattle.std.proofs.Common.{[], ◌∷◌}
use Rattle.plan.specs.Plans.{plan_scheme}
use Rattle.speed.specs.declared.judge.Judge.TheVariants.{Total, Worst, CountFirst}
use Rattle.speed.specs.Tables.{IsLine}
use Rattle.speed.proofs.Tabled.{Shown}
use Rattle.speed.proofs.tables.show_judges.Given as goal

-- the lines of the kinds so far are written
abbrev pub invariant-loop-judge : goal.invariant-loop-judge
invariant-loop-judge g l =
    Shown (IsLine (plan_scheme l.plan) l.decibels) (Total ∷ Worst ∷ CountFirst ∷ []) l.judge-index (g.W.Write.contents l.fn.output) (g.W.Write.contents l.output)
