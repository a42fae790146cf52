-- From what became of a line to what is said to it.
-- Assumes nothing.
use Rattle.std.proofs.Common.{◌≡◌, ℕ, List, Ok, Err, sym, ap, ◌∙◌, inl, inr, ⊎_elim, arith}
use Rattle.std.proofs.lemmas.Bool.{eqb-false}
use Rattle.plan.specs.Faults.{chain_number}
use Rattle.lines.specs.Faults.{line_number}
use Rattle.lines.specs.declared.answer.Answer.{Answer}
use Rattle.lines.specs.declared.answer.Answer.TheVariants.{Refused}
use Rattle.lines.specs.declared.fault.LineFault.{LineFault}
use Rattle.lines.specs.declared.fault.LineFault.TheVariants.{Chain, Form, Order, Size}
use Rattle.session.specs.Held.{Held}
use Rattle.session.specs.Said.{Answers, Carries}
use Rattle.session.proofs.Called.{fault_not_zero}

not_zero : (f : LineFault) → line_number f ≡ 0 → ⊥
not_zero (Chain f) e = eqb-false (chain_number f) 0 (fault_not_zero f) e
not_zero Form e = omega arith
not_zero Order e = omega arith
not_zero Size e = omega arith

pub said_accepted : (h left : Held) (line : List ℕ) (number : ℕ) (reply : Answer) → Carries h line (Ok reply) left → Answers h line number reply left
said_accepted h left line number reply carried =
    ⊎_elim
    (λ x. inl (x.0, x.1, record { accepted = λ _. x.3; refused = λ no. absurd (no (sym x.2)) }, x.4))
    (λ x. absurd (let e = x.1 in let z : ◌≡◌ {A = ℕ} 0 1 = cc in omega arith))
    carried

pub said_refused : (h left : Held) (line : List ℕ) (number : ℕ) (fault : LineFault) (reply : Answer) → reply ≡ Refused (line_number fault) number →
    Carries h line (Err fault) left → Answers h line number reply left
said_refused h left line number fault reply is carried =
    ⊎_elim
    (λ x. inl (x.0, x.1, record { accepted = λ zero. absurd (not_zero fault (x.2 ∙ zero)); refused = λ _. is ∙ ap (λ n. Refused n number) x.2 }, x.4))
    (λ x. inr (x.0, (let e = x.1 in let same : fault ≡ Form = cc in is ∙ ap (λ f. Refused (line_number f) number) same), x.2))
    carried
