-- The small plan passes every question but that of its constraint length.
-- Assumes nothing.
use Rattle.std.proofs.Common.{◌≡◌, ℕ, ◌==◌, ◌||◌, cond, not, true, false, List, Result, Ok, Err, refl, ap, ◌∙◌}
use Rattle.std.specs.Result.{IsErrAnd}
use Rattle.plan.specs.Faults.{plan_number, chain_number, outcome}
use Rattle.plan.specs.declared.fault.ChainFault.{ChainFault}
use Rattle.plan.specs.declared.fault.ChainFault.TheVariants.{Plan}
use Rattle.plan.specs.declared.fault.PlanFault.{PlanFault}
use Rattle.plan.specs.Questions.{plan_answer, coprime}
use Rattle.samples.specs.Small.{small_scheme, small_answer}

pub small_scheme_answer : (k : ℕ) → plan_answer (small_scheme k) ≡ small_answer k
unfolding coprime
small_scheme_answer k = elim (k == 7 || k == 9) as (λ b. ◌≡◌ {A = ℕ} (cond (not b) 1 0) (cond b 0 1)) [ true ↦ refl | false ↦ refl ]

-- a plan's fault is carried with its own number
pub carried_number : {X : Type 0} (r : Result X ChainFault) (fault : PlanFault) → IsErrAnd r (λ e. e ≡ Plan fault) → outcome chain_number r ≡ plan_number fault
carried_number (Ok x) fault h = absurd h
carried_number (Err e) fault h = ap chain_number h

pub refused_answer : {X : Type 0} (r : Result X ChainFault) (fault : PlanFault) (k : ℕ) (entries : List ℕ) → IsErrAnd r (λ e. e ≡ Plan fault) → entries ≡ (small_scheme k).entries → plan_number fault ≡ plan_answer (record (small_scheme k) { entries = entries }) → outcome chain_number r ≡ small_answer k
refused_answer r fault k entries err e answer = carried_number r fault err ∙ answer ∙ (λ i. plan_answer (record (small_scheme k) { entries = e i })) ∙ small_scheme_answer k
