use Rattle.plan.proofs.Divisors.{SameDivisors}
use Rattle.plan.proofs.questions.is_coprime.Given as goal

abbrev pub invariant-loop-y : goal.invariant-loop-y
invariant-loop-y l = SameDivisors l.x l.y l.a l.n

abbrev pub decreases-loop-y : goal.decreases-loop-y
decreases-loop-y l = l.y
