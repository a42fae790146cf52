use Rattle.std.proofs.Common.{◌<◌, IfSome}
use Rattle.search.proofs.numbers.Numbers.likeliest.Given as goal

abbrev pub invariant-loop-number : goal.invariant-loop-number
invariant-loop-number l = IfSome l.best (λ x. x < l.count)
