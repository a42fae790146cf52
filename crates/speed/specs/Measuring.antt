-- What is measured: plans of rate 1/2, and looks by a kind of score that is named.
-- Assumes nothing.
use Rattle.std.specs.Prelude.{ℕ, Bool, ℤ, List, [], ◌∷◌, ◌++◌, codes}
use Rattle.std.specs.Fmt.{decimal}
use Rattle.plan.specs.Scheme.{Scheme}
use Rattle.score.specs.Kinds.{total_scale, worst_scale, count_scale}
use Rattle.score.specs.declared.tally.Tally.TheVariants.{Counted, Full}
use Rattle.search.specs.Looking.{Found}
use Rattle.speed.specs.declared.judge.Judge.{Judge}
use Rattle.speed.specs.declared.judge.Judge.TheVariants.{Total, Worst, CountFirst}
use Rattle.speed.specs.declared.judge.Score.{Score}
use Rattle.speed.specs.declared.judge.Score.TheVariants.{Total as OfTotal, Worst as OfWorst, CountFirst as OfCountFirst}

-- every coded bit is sent once, in order, and two symbols are a frame
abbrev pub half_rate : ℕ → ℕ → Scheme
half_rate k block = record {
  constraint = k;
  period = 1;
  entries = 0 ∷ 1 ∷ [];
  block = block;
  bits = 1;
  frame = 2;
  increment = 1;
}

-- the kind that a score is of
abbrev pub judge_of : Score → Judge
judge_of (OfTotal score) = Total
judge_of (OfWorst score) = Worst
judge_of (OfCountFirst score) = CountFirst

-- the block is the best by that kind, and the score its own
abbrev pub Best : Scheme → (ℕ → ℤ) → (ℕ → Bool) → Score → Type 0
Best s values u (OfTotal score) = Found total_scale s values u score
Best s values u (OfWorst score) = Found worst_scale s values u score
Best s values u (OfCountFirst score) = Found count_scale s values u score

-- a score as it is written: a number, a count and its total, or the word for a full count
abbrev pub score_text : Score → List ℕ
score_text (OfTotal score) = decimal score
score_text (OfWorst score) = decimal score
score_text (OfCountFirst (Counted count total)) = decimal count ++ codes " of " ++ decimal total
score_text (OfCountFirst Full) = codes "full"
