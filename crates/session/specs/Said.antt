-- What is said to a line.
-- Assumes nothing.
use Rattle.std.specs.Prelude.{◌≡◌, ℕ, ◌⊎◌, List, IfOk, Err, Result, ◌≢◌}
use Rattle.plan.specs.Faults.{outcome}
use Rattle.lines.specs.Commands.{Writes}
use Rattle.lines.specs.Faults.{line_number}
use Rattle.lines.specs.declared.answer.Answer.{Answer}
use Rattle.lines.specs.declared.answer.Answer.TheVariants.{Refused}
use Rattle.lines.specs.declared.command.Command.{Command}
use Rattle.lines.specs.declared.fault.LineFault.{LineFault}
use Rattle.lines.specs.declared.fault.LineFault.TheVariants.{Form}
use Rattle.session.specs.Held.{Held, answer, after, Replies}

-- to a command on the line with this number: what an accepted one is replied, else its refusal
pub record Said (h : Held) (c : Command) (number : ℕ) (reply : Answer) : Type 0 where
  pub accepted : answer h c ≡ 0 → Replies h c reply
  pub refused : (answer h c ≢ 0) → reply ≡ Refused (answer h c) number

-- to a line that is some command's, what is said to that command; to any other, 18, and what is held stays
abbrev pub Answers : Held → List ℕ → ℕ → Answer → Held → Type 0
Answers h line number reply left =
    ((c : Command) × Writes c line × Said h c number reply × (left ≡ after h c))
    ⊎ (((c : Command) → Writes c line → ⊥) × (reply ≡ Refused 18 number) × (left ≡ h))

-- before that is written as an answer: the command that was carried out, or that there is none
abbrev pub Carries : Held → List ℕ → Result Answer LineFault → Held → Type 0
Carries h line r left =
    ((c : Command) × Writes c line × (outcome line_number r ≡ answer h c) × IfOk r (λ reply. Replies h c reply) × (left ≡ after h c))
    ⊎ (((c : Command) → Writes c line → ⊥) × (r ≡ Err Form) × (left ≡ h))
