use Rattle.std.proofs.Common.{[], ◌∷◌}
use Rattle.speed.specs.Measuring.{half_rate}
use Rattle.speed.specs.declared.judge.Judge.TheVariants.{Total}
use Rattle.speed.specs.Tables.{IsLine}
use Rattle.speed.proofs.Tabled.{Shown}
use Rattle.speed.proofs.tables.show_lengths.Given as goal

-- the lines of the lengths so far are written
abbrev pub invariant-loop-block_length : goal.invariant-loop-block_length
invariant-loop-block_length g l =
    Shown (λ block. IsLine (half_rate l.constraint block) l.decibels Total) (136 ∷ 512 ∷ 3072 ∷ 12288 ∷ []) l.block_length-index
    (g.W.Write.contents l.fn.output) (g.W.Write.contents l.output)
