-- The trellis of a coding scheme, with scores of one kind.
-- Assumes nothing.
use Rattle.std.specs.Prelude.{ℕ, ◌-◌, List, ℤ, slice_index_or}
use Rattle.plan.specs.Scheme.{Scheme}
use Rattle.code.specs.Coding.{pair}
use Rattle.code.specs.Numbers.{bit_of}
use Rattle.score.specs.Scale.{Scale}
use Rattle.score.specs.Blocks.{absorbed_both, step_score}
use Rattle.trellis.specs.Steps.{Steps}

-- the bits of a state: a window's, but for one
abbrev pub memory : Scheme → ℕ
memory s = s.constraint - 1

-- step t takes the values of pair t, against the pair of its window
abbrev pub steps : {S : Type 0} → Scale S → Scheme → (ℕ → ℤ) → Steps S
steps k s values = record {
  from = k.start;
  take = λ t window score. step_score k s values t (pair s.constraint (bit_of s.constraint window)) score;
  no_worse = k.no_worse;
}

-- the same at one step, whose values are at hand
abbrev pub steps_with : {S : Type 0} → Scale S → ℕ → List ℤ × List ℤ → Steps S
steps_with k constraint both = record {
  from = k.start;
  take = λ _ window score. absorbed_both k both (pair constraint (bit_of constraint window)) score;
  no_worse = k.no_worse;
}

-- a column of scores by state; past its end the start
abbrev pub column : {S : Type 0} → Scale S → List S → ℕ → S
column k scores s = slice_index_or scores s k.start
