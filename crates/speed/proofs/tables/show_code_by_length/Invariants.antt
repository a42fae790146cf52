use Rattle.std.proofs.Common.{[], ◌∷◌, pos}
use Rattle.speed.specs.Tables.{ByLength}
use Rattle.speed.proofs.Tabled.{Shown}
use Rattle.speed.proofs.tables.show_code_by_length.Given as goal

-- the lines of the ratios so far are written
abbrev pub invariant-loop-decibels : goal.invariant-loop-decibels
invariant-loop-decibels g l =
    Shown (ByLength l.constraint) (pos 1 ∷ pos 3 ∷ pos 5 ∷ []) l.decibels-index (g.W.Write.contents l.fn.output) (g.W.Write.contents l.output)
