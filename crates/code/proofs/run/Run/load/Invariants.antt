use Rattle.std.proofs.Common.{◌≡◌, ◌*◌, length}
use Rattle.code.specs.Numbers.{read}
use Rattle.code.specs.Sending.{loads}
use Rattle.plan.specs.Plans.{plan_scheme}
use Rattle.code.proofs.run.Run.load.Given as goal

-- the entries before this one are loaded
abbrev pub invariant-loop-i : goal.invariant-loop-i
invariant-loop-i l = let s = plan_scheme l.self.plan.now in l.array ≡ loads s (read l.word) l.initial.array (l.self.number * length s.entries) l.i
