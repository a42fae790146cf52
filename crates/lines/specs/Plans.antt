-- The plans that the bench takes.
-- Assumes nothing.
use Rattle.std.specs.Prelude.{ℕ, Bool, cond, ◌&&◌, ◌==◌, nat_le}
use Rattle.plan.specs.Questions.{plan_answer}
use Rattle.plan.specs.Scheme.{Scheme, sent_length}

-- a block of at most 256 bits, for which at most 1,024 are sent
abbrev pub size_fits : Scheme → Bool
size_fits s = nat_le s.block 256 && nat_le (sent_length s) 1024

-- the plan's own questions come first
abbrev pub plan_line_answer : Scheme → ℕ
plan_line_answer s = cond (plan_answer s == 0) (cond (size_fits s) 0 20) (plan_answer s)
