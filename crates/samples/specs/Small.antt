-- The small plan: its scheme, and what a call for it answers.
-- Assumes nothing.
use Rattle.std.specs.Prelude.{◌≡◌, ℕ, cond, ◌||◌, ◌⊎◌, ◌==◌, [], ◌∷◌}
use Rattle.plan.specs.Scheme.{Scheme}

-- nine bits in three runs of a send list of four: twelve are sent, in four symbols of three
abbrev pub small_scheme : ℕ → Scheme
small_scheme k = record {
  constraint = k;
  period = 3;
  entries = 0 ∷ 1 ∷ 2 ∷ 5 ∷ [];
  block = 9;
  bits = 3;
  frame = 4;
  increment = 5;
}

-- 0 for the two constraint lengths that the standard has, and else the number of that question
abbrev pub small_answer : ℕ → ℕ
small_answer k = cond (k == 7 || k == 9) 0 1

-- a call answered this number, or, where it would be accepted, that there is no memory left
abbrev pub AnsweredOrNoMemory : ℕ → ℕ → Type 0
AnsweredOrNoMemory number answer = (number ≡ answer) ⊎ ((answer ≡ 0) × (number ≡ 255))
