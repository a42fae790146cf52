-- What carrying out a command comes to, and what a call of the receiver does.
-- Assumes nothing.
use Rattle.std.specs.Prelude.{◌≡◌, ℕ, cond, List, ℤ, is_ok, IfOk, Result, ◌==◌}
use Rattle.plan.specs.Faults.{chain_number, outcome}
use Rattle.plan.specs.declared.fault.ChainFault.{ChainFault}
use Rattle.lines.specs.Faults.{line_number}
use Rattle.lines.specs.declared.answer.Answer.{Answer}
use Rattle.lines.specs.declared.answer.Answer.TheVariants.{Accepted}
use Rattle.lines.specs.declared.command.Command.{Command}
use Rattle.lines.specs.declared.fault.LineFault.{LineFault}
use Rattle.receiver.specs.Receivers.{view_of}
use Rattle.receiver.specs.Views.{View}
use Rattle.receiver.specs.declared.receiver.Receiver.{Receiver}
use Rattle.scrambler.specs.Meanings.{table_meaning}
use Rattle.scrambler.specs.declared.scrambler.Scrambler.{Ghosts}
use Rattle.scrambler.specs.declared.table.Table.{Table}
use Rattle.session.specs.Held.{Held, asked, with_call, answer, after, Replies}

-- the command is answered, leaves what it should, and an accepted one is replied to
pub record Obeys (h : Held) (c : Command) (r : Result Answer LineFault) (left : Held) : Type 0 where
  pub answer : outcome line_number r ≡ answer h c
  pub after : left ≡ after h c
  pub reply : IfOk r (λ a. Replies h c a)

module _ (number : View → List ℤ → ℕ) (leaves : View → List ℤ → List ℤ) where
  -- a call of a receiver that answers this number, and leaves these values where it is accepted
  pub record Makes {g : Ghosts Table} {R : Type 0} (x : Receiver Table g) (values : List ℤ) (r : Result R ChainFault) (left : List ℤ) : Type 0 where
    pub answer : outcome chain_number r ≡ number (view_of table_meaning x) values
    pub after : left ≡ cond (is_ok r) (leaves (view_of table_meaning x) values) values

  -- the receiver that is held is called, or there is none
  pub record Calls (h : Held) (r : Result Answer LineFault) (left : Held) : Type 0 where
    pub answer : outcome line_number r ≡ asked h.receiver (λ v. number v h.values)
    pub after : left ≡ cond (asked h.receiver (λ v. number v h.values) == 0) (with_call h h.receiver (λ v. leaves v h.values)) h
    pub reply : IfOk r (λ a. a ≡ Accepted)
