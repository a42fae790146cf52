use Rattle.std.proofs.Common.{◌&&◌}
use Rattle.trellis.specs.Bounds.{shares, ahead}
use Rattle.search.specs.Searching.{column}
use Rattle.search.specs.Stepping.{scale_of}
use Rattle.search.proofs.Closing.{ClosedBelow}
use Rattle.search.proofs.pass.Workspace.close_behind.Given as goal

abbrev pub invariant-loop-other : goal.invariant-loop-other
invariant-loop-other g l =
    let p = l.self.pass.now in
    ClosedBelow
    (λ x. shares p.trellis.memory l.held l.number x && ahead (scale_of p).no_worse l.score l.lead (column (scale_of p) l.self.before.now.scores.now x) x)
    l.initial.numbers.left l.other l.numbers.left
