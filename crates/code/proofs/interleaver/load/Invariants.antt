use Rattle.std.proofs.Common.{◌≡◌, ◌*◌, length}
use Rattle.code.specs.Numbers.{read}
use Rattle.code.specs.Sending.{loads}
use Rattle.plan.specs.Plans.{plan_scheme}
use Rattle.code.proofs.interleaver.load.Given as goal

-- the runs before this one are loaded
abbrev pub invariant-loop-number : goal.invariant-loop-number
invariant-loop-number l = let s = plan_scheme l.plan in l.array ≡ loads s (read l.word) l.initial.array 0 (l.number * length s.entries)
