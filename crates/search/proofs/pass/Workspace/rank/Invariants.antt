use Rattle.std.proofs.Common.{◌≡◌}
use Rattle.search.proofs.pass.Workspace.rank.Given as goal

abbrev pub invariant-loop-number : goal.invariant-loop-number
invariant-loop-number g l = l.numbers.left ≡ l.initial.numbers.left
