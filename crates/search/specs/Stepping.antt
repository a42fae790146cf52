-- What a step and a pass of the search mean.
-- Assumes nothing.
use Rattle.std.specs.Prelude.{ℕ, Bool, List}
use Rattle.plan.specs.Plans.{plan_scheme}
use Rattle.score.specs.Blocks.{value_at}
use Rattle.score.specs.Gathered.{held_both}
use Rattle.score.specs.Scale.{Scale}
use Rattle.score.specs.declared.kind.Kind.{Ghosts}
use Rattle.trellis.specs.Steps.{Steps}
use Rattle.trellis.specs.Survivors.{way, next_mark, next}
use Rattle.search.specs.Searching.{steps, steps_with, column}
use Rattle.search.specs.declared.pass.Pass.{Pass}
use Rattle.search.specs.declared.step.Step.{Step}

module _ {K S : Type 0} {g : Ghosts K S} where
  -- the scale of a pass's kind of score
  abbrev pub scale_of : Pass K S g → Scale S
  scale_of pass = g.scale pass.kind.now

  -- the steps that a pass takes
  abbrev pub steps_of : Pass K S g → Steps S
  steps_of pass = steps (scale_of pass) (plan_scheme pass.plan.now) (value_at pass.values.now)

module _ {K S : Type 0} {g : Ghosts K S} (step : Step K S g) where
  abbrev pub step_of : Steps S
  step_of = steps_with (scale_of step.pass.now) (plan_scheme step.pass.now.plan.now).constraint (held_both step.values)

  -- from a column of scores, the score at a state by one way
  abbrev pub way_of : List S → ℕ → Bool → S
  way_of scores s b = way step_of step.pass.now.trellis.memory 0 (column (scale_of step.pass.now) scores) s b

  -- the bit that the surviving way into a state shifts out
  abbrev pub mark_of : List S → ℕ → Bool
  mark_of scores s = next_mark step_of step.pass.now.trellis.memory step.forced 0 (column (scale_of step.pass.now) scores) s

  -- the score of the surviving way into a state
  abbrev pub next_of : List S → ℕ → S
  next_of scores s = next step_of step.pass.now.trellis.memory step.forced 0 (column (scale_of step.pass.now) scores) s
