-- The coding scheme of a row, and what a call for it answers.
-- Assumes nothing.
use Rattle.std.specs.Prelude.{◌≡◌, ℕ, ◌*◌, Bool, true, cond, ◌||◌, ◌⊎◌, is_some, Option, ◌==◌}
use Rattle.std.specs.Option.{option_map}
use Rattle.plan.specs.Questions.{plan_answer}
use Rattle.plan.specs.Scheme.{Scheme, sent_length}
use Rattle.rows.specs.Patterns.{puncture, period, send_list}
use Rattle.rows.specs.Ratios.{ratio}
use Rattle.rows.specs.Rows.{row_entry}
use Rattle.rows.specs.declared.row.Entry.{Entry}
use Rattle.rows.specs.declared.row.Row.{Row}

-- the scheme of an entry, for a code of this constraint length
abbrev pub entry_scheme : Entry → ℕ → Scheme
entry_scheme e k = record {
  constraint = k;
  period = period (puncture e.rate k);
  entries = send_list (puncture e.rate k);
  block = e.block_length;
  bits = e.symbol_bits;
  frame = e.frame_length;
  increment = e.increment;
}

-- the scheme of a row, where the standard has it
abbrev pub row_scheme : Row → ℕ → Option Scheme
row_scheme row k = option_map (λ e. entry_scheme e k) (row_entry row)

-- the constraint lengths that the standard has
abbrev pub is_constraint : ℕ → Bool
is_constraint k = k == 7 || k == 9

-- the number of the first question that is answered no: 9 for the row, 1 for the constraint length
abbrev pub row_answer : Row → ℕ → ℕ
row_answer row k = cond (is_some (row_entry row)) (cond (is_constraint k) 0 1) 9

-- a call answered this number: what the row answers, or that there is no memory left where the row would be accepted
abbrev pub Answered : ℕ → ℕ → Type 0
Answered number answer = (number ≡ answer) ⊎ ((answer ≡ 0) × (number ≡ 255))

-- an entry makes sense: with either constraint length its scheme passes every question of a plan and sends exactly the
-- bits that the table gives; these fill its frames, and are to the block's bits as its rate says
pub record Consistent (e : Entry) : Type 0 where
  pub passes : (k : ℕ) → is_constraint k ≡ true → plan_answer (entry_scheme e k) ≡ 0
  pub sends : (k : ℕ) → is_constraint k ≡ true → sent_length (entry_scheme e k) ≡ e.sent_length
  pub fills : e.frames * e.frame_length * e.symbol_bits ≡ e.sent_length
  pub rated : e.block_length * (ratio e.rate).1 ≡ e.sent_length * (ratio e.rate).0
