use Rattle.std.proofs.Common.{[], ◌∷◌, pos}
use Rattle.speed.specs.Measuring.{half_rate}
use Rattle.speed.specs.Tables.{AtRatios}
use Rattle.speed.proofs.Tabled.{Shown}
use Rattle.speed.proofs.tables.show_code.Given as goal

-- the lines of the lengths so far are written
abbrev pub invariant-loop-block_length : goal.invariant-loop-block_length
invariant-loop-block_length g l =
    Shown (λ block. AtRatios (half_rate l.constraint block) (pos 0 ∷ pos 1 ∷ pos 2 ∷ pos 3 ∷ pos 5 ∷ [])) (136 ∷ 3072 ∷ []) l.block_length-index
    (g.W.Write.contents l.fn.output) (g.W.Write.contents l.output)
