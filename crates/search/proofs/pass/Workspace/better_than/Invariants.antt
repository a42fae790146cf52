use Rattle.std.proofs.Common.{◌≤◌}
use Rattle.search.proofs.pass.Workspace.better_than.Given as goal

abbrev pub invariant-loop-other : goal.invariant-loop-other
invariant-loop-other g l = l.count ≤ l.other
