use Rattle.std.proofs.Common.{◌≡◌, ℕ, ◌+◌, ◌<◌, ◌≤◌, true}
use Rattle.trellis.specs.Bounds.{ahead}
use Rattle.trellis.specs.Choice.{final}
use Rattle.search.specs.Choosing.{Knows}
use Rattle.search.specs.Stepping.{steps_of}
use Rattle.search.proofs.pass.Workspace.settle.Given as goal

abbrev pub invariant-loop-number : goal.invariant-loop-number
invariant-loop-number g l =
    let p = l.initial.self.pass.now in
    (l.self.pass ≡ l.initial.self.pass)
    × Knows p l.leader.0 l.leader.1 l.numbers.left
    × ((x : ℕ) → x < l.number → ahead (steps_of p).no_worse l.leader.1 l.leader.0 (final (steps_of p) p.trellis.memory p.trellis.size x) x ≡ true)
    × (l.self.trips ≤ l.initial.self.trips + l.number)
