use Rattle.rows_check.specs.Refusals.{asked}
use Rattle.rows_check.proofs.Lines.{Shown}
use Rattle.rows_check.proofs.refusals.write_all.Given as goal

-- the lines so far are written
abbrev pub invariant-loop-bandwidth : goal.invariant-loop-bandwidth
invariant-loop-bandwidth g l = Shown asked l.bandwidth-index (g.W.Write.contents l.fn.output) (g.W.Write.contents l.output)
