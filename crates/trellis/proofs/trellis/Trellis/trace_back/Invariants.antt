use Rattle.std.proofs.Common.{◌≡◌}
use Rattle.trellis.specs.Choice.{back}
use Rattle.trellis.specs.Marks.{marked, overwritten}
use Rattle.trellis.proofs.trellis.Trellis.trace_back.Given as goal

-- the bits that are left, written over what is there, give the whole
abbrev pub invariant-loop-t : goal.invariant-loop-t
invariant-loop-t l =
    overwritten l.t (back l.self.memory (marked l.self.memory l.marks) l.t l.state) l.block
    ≡ overwritten l.self.size (back l.self.memory (marked l.self.memory l.marks) l.self.size l.end) l.initial.block
