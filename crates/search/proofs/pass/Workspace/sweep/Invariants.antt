use Rattle.std.proofs.Common.{◌≡◌}
use Rattle.plan.specs.Plans.{plan_scheme}
use Rattle.score.specs.Blocks.{value_at}
use Rattle.trellis.specs.Survivors.{prefix}
use Rattle.search.proofs.Passes.{Passed}
use Rattle.search.proofs.pass.Workspace.sweep.Given as goal

abbrev pub invariant-loop-t : goal.invariant-loop-t
invariant-loop-t g l =
    let p = l.pass in
    (l.self.pass ≡ l.initial.self.pass)
    × (l.self.trips ≡ l.initial.self.trips)
    × Passed (g.K.Kind.scale p.kind.now) (plan_scheme p.plan.now) (value_at p.values.now)
    p.trellis.memory (prefix p.trellis.memory l.held l.number) l.t l.self.before.now.scores.now l.self.marks.now
