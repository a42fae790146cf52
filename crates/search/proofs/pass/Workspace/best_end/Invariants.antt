use Rattle.std.proofs.Common.{◌^◌, ◌<◌}
use Rattle.search.proofs.pass.Workspace.best_end.Given as goal

abbrev pub invariant-loop-other : goal.invariant-loop-other
invariant-loop-other g l = l.end < 2 ^ l.self.pass.now.trellis.memory
