-- A call that answers 0 was accepted.
-- Assumes nothing.
use Rattle.std.proofs.Common.{◌≡◌, true, is_ok, Ok, Err, Result, refl, arith}
use Rattle.plan.specs.Faults.{plan_number, chain_number, outcome}
use Rattle.plan.specs.declared.fault.ChainFault.{ChainFault}
use Rattle.plan.specs.declared.fault.ChainFault.TheVariants.{Plan, Row, Scrambler, Fit, Block, TooShort, Place, Index, Mapping, Location, OutOfMemory}
use Rattle.plan.specs.declared.fault.PlanFault.{PlanFault}
use Rattle.plan.specs.declared.fault.PlanFault.TheVariants.{ConstraintLength, Period, Entry, BlockLength, SentLength, SymbolBits, FrameLength, Increment}

plan_positive : (f : PlanFault) → plan_number f ≡ 0 → ⊥
plan_positive ConstraintLength e = omega arith
plan_positive Period e = omega arith
plan_positive Entry e = omega arith
plan_positive BlockLength e = omega arith
plan_positive SentLength e = omega arith
plan_positive SymbolBits e = omega arith
plan_positive FrameLength e = omega arith
plan_positive Increment e = omega arith

pub positive : (f : ChainFault) → chain_number f ≡ 0 → ⊥
positive (Plan f) e = plan_positive f e
positive Row e = omega arith
positive Scrambler e = omega arith
positive Fit e = omega arith
positive Block e = omega arith
positive TooShort e = omega arith
positive Place e = omega arith
positive Index e = omega arith
positive Mapping e = omega arith
positive Location e = omega arith
positive OutOfMemory e = omega arith

pub accepted : {X : Type 0} (r : Result X ChainFault) → outcome chain_number r ≡ 0 → is_ok r ≡ true
accepted (Ok x) e = refl
accepted (Err f) e = absurd (positive f e)
