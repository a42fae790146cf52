use Rattle.std.proofs.Common.{◌≡◌, IfSome}
use Rattle.rows.specs.Schemes.{row_scheme}
use Rattle.curve.specs.Dots.{trial_air, counted}
use Rattle.curve.proofs.counting.dot_at.Given as goal

-- so many trials are counted, and the air is the one that the last of them left
abbrev pub invariant-loop : goal.invariant-loop
invariant-loop l =
    IfSome (row_scheme l.run.choice.row l.run.choice.constraint)
    (λ s. (l.air ≡ trial_air s l.initial.air l.counter) × (l.dot ≡ counted s l.initial.air l.fn.decibels l.counter))
