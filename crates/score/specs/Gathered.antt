-- The values that a step has gathered.
-- Assumes nothing.
use Rattle.std.specs.Prelude.{ℕ, cond, List, [], take, ℤ, nat_lt}
use Rattle.plan.specs.Scheme.{Scheme}
use Rattle.score.specs.Blocks.{step_values}
use Rattle.score.specs.declared.gathered.BitValues.{BitValues}
use Rattle.score.specs.declared.gathered.StepValues.{StepValues}

-- the values of one mother bit
abbrev pub held : BitValues → List ℤ
held b = take b.count b.items

-- the values of the first and of the second bit of a pair
abbrev pub held_both : StepValues → List ℤ × List ℤ
held_both v = (held v.first, held v.second)

-- the values of step t; there are none past the block
abbrev pub step_values_within : Scheme → (ℕ → ℤ) → ℕ → List ℤ × List ℤ
step_values_within s values t = cond (nat_lt t s.block) (step_values s values t) ([], [])
