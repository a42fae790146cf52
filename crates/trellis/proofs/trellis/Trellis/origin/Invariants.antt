use Rattle.std.proofs.Common.{◌≡◌}
use Rattle.trellis.specs.Choice.{origin}
use Rattle.trellis.specs.Marks.{marked}
use Rattle.trellis.proofs.trellis.Trellis.origin.Given as goal

-- what is left of the way back leads where the whole does
abbrev pub invariant-loop-t : goal.invariant-loop-t
invariant-loop-t l = origin l.self.memory (marked l.self.memory l.marks) l.t l.from ≡ origin l.self.memory (marked l.self.memory l.marks) l.self.size l.end
