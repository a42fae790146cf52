use Rattle.std.proofs.Common.{◌≡◌, ◌≤◌}
use Rattle.plan.specs.Plans.{plan_scheme}
use Rattle.score.specs.Blocks.{value_at}
use Rattle.score.specs.Gathered.{held}
use Rattle.score.proofs.Gatherings.{Found}
use Rattle.score.proofs.gathered.gathering.named.Given as goal

abbrev pub invariant-loop-i : goal.invariant-loop-i
invariant-loop-i l =
    (l.list ≡ (plan_scheme l.run.plan.now).entries)
    × (l.found.count ≤ l.i)
    × Found (plan_scheme l.run.plan.now) (value_at l.memory) l.run.number l.wanted (held l.found) l.i
