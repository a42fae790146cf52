-- A plan's fault has a number above 0, so a scheme that passes every question is not refused.
-- Assumes nothing.
use Rattle.std.proofs.Common.{◌≡◌, ◌≤◌, ap, ◌∙◌, arith, lit≤}
use Rattle.plan.specs.Faults.{plan_number}
use Rattle.plan.specs.Questions.{plan_answer}
use Rattle.plan.specs.Scheme.{Scheme}
use Rattle.plan.specs.declared.fault.PlanFault.{PlanFault}
use Rattle.plan.specs.declared.fault.PlanFault.TheVariants.{ConstraintLength, Period, Entry, BlockLength, SentLength, SymbolBits, FrameLength, Increment}

numbered : (fault : PlanFault) → 1 ≤ plan_number fault
numbered ConstraintLength = lit≤ tt
numbered Period = lit≤ tt
numbered Entry = lit≤ tt
numbered BlockLength = lit≤ tt
numbered SentLength = lit≤ tt
numbered SymbolBits = lit≤ tt
numbered FrameLength = lit≤ tt
numbered Increment = lit≤ tt

pub not_refused : (fault : PlanFault) (given wanted : Scheme) → plan_number fault ≡ plan_answer given → given ≡ wanted → plan_answer wanted ≡ 0 → ⊥
not_refused fault given wanted e same z =
    let n : plan_number fault ≡ 0 = e ∙ ap plan_answer same ∙ z in
    let low = numbered fault in
    omega arith
