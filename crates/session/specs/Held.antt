-- What is held between lines, what a command answers, and what it leaves.
-- Assumes nothing.
use Rattle.std.specs.Prelude.{◌≡◌, ℕ, ◌<◌, cond, List, length, take, ℤ, Some, None, vec_items, Option, ◌==◌, slice_index}
use Rattle.plan.specs.Parts.{scheme}
use Rattle.plan.specs.Scheme.{Scheme, sent_length}
use Rattle.code.specs.Numbers.{bits_of, digit}
use Rattle.scrambler.specs.Questions.{table_fits}
use Rattle.sender.specs.Scrambling.{needed_width}
use Rattle.score.specs.Blocks.{value_at}
use Rattle.score.specs.Kinds.{total_scale}
use Rattle.trellis.specs.Choice.{picked}
use Rattle.search.specs.Looking.{Found}
use Rattle.search.specs.Searching.{memory, steps}
use Rattle.receiver.specs.Calls.{making_answer, hear_answer, note_answer, blank_answer}
use Rattle.receiver.specs.Values.{after_making, after_hear, after_note, after_blank}
use Rattle.receiver.specs.Views.{View}
use Rattle.lines.specs.Plans.{plan_line_answer}
use Rattle.lines.specs.declared.answer.Answer.{Answer}
use Rattle.lines.specs.declared.answer.Answer.TheVariants.{Accepted, Shown, Refused}
use Rattle.lines.specs.declared.command.Command.{Command}
use Rattle.lines.specs.declared.command.Command.TheVariants.{Plan, Table, Hear, Note, Blank, Look}

pub record Held : Type 0 where
  -- the plan that was accepted last
  pub plan : Option Scheme
  -- the receiver that was made by it
  pub receiver : Option View
  -- the receiver's values
  pub values : List ℤ

-- 19 where what a command needs was not accepted before, else what the call itself answers
abbrev pub asked : {X : Type 0} → Option X → (X → ℕ) → ℕ
asked None answer = 19
asked (Some x) answer = answer x

-- a receiver by this plan, with a table of the needed width
abbrev pub by_table : Scheme → List ℕ → View
by_table s values = record { scheme = s; meaning = record { width = needed_width s.bits; values = values } }

-- the table's own question comes before those of the receiver
abbrev pub table_answer : Scheme → List ℕ → ℕ → ℕ
table_answer s values lent = cond (table_fits (needed_width s.bits) values) (making_answer (by_table s values) lent) 10

-- the number that a command answers: a plan needs nothing before it, a table a plan, every other command a receiver
abbrev pub answer : Held → Command → ℕ
answer h (Plan parts) = plan_line_answer (scheme parts)
answer h (Table values) = asked h.plan (λ s. table_answer s (vec_items values) (length h.values))
answer h (Hear place index weight) = asked h.receiver (λ v. hear_answer v (length h.values) place index weight)
answer h (Note location value) = asked h.receiver (λ v. note_answer v.scheme (length h.values) location value)
answer h (Blank place) = asked h.receiver (λ v. blank_answer v.scheme (length h.values) place)
answer h Look = asked h.receiver (λ v. 0)

-- a table makes the receiver, and its values 0
abbrev pub with_table : Held → Option Scheme → List ℕ → Held
with_table h None values = h
with_table h (Some s) values = record { plan = h.plan; receiver = Some (by_table s values); values = after_making s h.values }

-- a call of the receiver changes the values alone
abbrev pub with_call : Held → Option View → (View → List ℤ) → Held
with_call h None after = h
with_call h (Some v) after = record { plan = h.plan; receiver = h.receiver; values = after v }

-- what an accepted command leaves: a plan drops the receiver, a look changes nothing
abbrev pub accepted : Held → Command → Held
accepted h (Plan parts) = record { plan = Some (scheme parts); receiver = None; values = h.values }
accepted h (Table values) = with_table h h.plan (vec_items values)
accepted h (Hear place index weight) = with_call h h.receiver (λ v. after_hear v place index weight h.values)
accepted h (Note location value) = with_call h h.receiver (λ v. after_note location value h.values)
accepted h (Blank place) = with_call h h.receiver (λ v. after_blank v.scheme place h.values)
accepted h Look = h

-- a refused command leaves everything as it was
abbrev pub after : Held → Command → Held
after h c = cond (answer h c == 0) (accepted h c) h

-- the tie rule's block against the values, with its own score, which no block betters
pub record Shows (v : View) (values : List ℤ) (score : ℕ) (block : List ℕ) : Type 0 where
  pub long : length block ≡ v.scheme.block
  pub bits : (i : ℕ) → i < v.scheme.block → slice_index block i ≡ digit (picked (steps total_scale v.scheme (value_at (take (sent_length v.scheme) values))) (memory v.scheme) v.scheme.block i)
  pub best : Found total_scale v.scheme (value_at (take (sent_length v.scheme) values)) (bits_of block) score

abbrev pub ShowsBest : Option View → List ℤ → Answer → Type 0
ShowsBest None values reply = ⊥
ShowsBest (Some v) values Accepted = ⊥
ShowsBest (Some v) values (Shown score block) = Shows v values score (vec_items block)
ShowsBest (Some v) values (Refused number line) = ⊥

-- what is said to an accepted command: a look is shown the best block, every other one is accepted
abbrev pub Replies : Held → Command → Answer → Type 0
Replies h (Plan parts) reply = reply ≡ Accepted
Replies h (Table values) reply = reply ≡ Accepted
Replies h (Hear place index weight) reply = reply ≡ Accepted
Replies h (Note location value) reply = reply ≡ Accepted
Replies h (Blank place) reply = reply ≡ Accepted
Replies h Look reply = ShowsBest h.receiver h.values reply
