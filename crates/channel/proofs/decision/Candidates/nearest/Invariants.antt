use Rattle.std.proofs.Common.{◌≡◌, ◌-◌}
use Rattle.plan.specs.Plans.{plan_scheme}
use Rattle.channel.specs.Hearing.{Sendable}
use Rattle.channel.specs.Plane.{nearest_of}
use Rattle.channel.proofs.decision.Candidates.nearest.Given as goal

-- the best so far can be sent, and is the nearest of the candidates before this one
abbrev pub invariant-loop-number : goal.invariant-loop-number
invariant-loop-number l =
    Sendable (plan_scheme l.self.plan.now).bits l.self.value l.best.index
    × (l.best ≡ nearest_of (plan_scheme l.self.plan.now).bits l.self.value l.received (l.number - 1))
