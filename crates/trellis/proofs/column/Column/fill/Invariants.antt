use Rattle.std.proofs.Common.{◌≡◌, ℕ, ◌<◌, get_or}
use Rattle.trellis.proofs.column.Column.fill.Given as goal

-- the places so far hold the score
abbrev pub invariant-loop-place : goal.invariant-loop-place
invariant-loop-place g l = (k : ℕ) → k < l.place-index → get_or l.place-items k l.fn.score ≡ l.fn.score
