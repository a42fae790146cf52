use Rattle.std.proofs.Common.{◌≡◌, ◌+◌, ◌≤◌}
use Rattle.search.specs.Choosing.{Knows}
use Rattle.search.proofs.pass.Workspace.narrow.Given as goal

abbrev pub invariant-loop : goal.invariant-loop
invariant-loop g l =
    (l.self.pass ≡ l.initial.self.pass)
    × Knows l.initial.self.pass.now l.leader.0 l.leader.1 l.numbers.left
    × (l.self.trips + l.initial.counter ≤ l.initial.self.trips + l.counter)
