-- The number of each fault: that of the question that was answered no.
-- Assumes nothing.
use Rattle.std.specs.Prelude.{ℕ, Ok, Err, Result}
use Rattle.plan.specs.declared.fault.ChainFault.{ChainFault}
use Rattle.plan.specs.declared.fault.ChainFault.TheVariants.{Plan, Row, Scrambler, Fit, Block, TooShort, Place, Index, Mapping, Location, OutOfMemory}
use Rattle.plan.specs.declared.fault.PlanFault.{PlanFault}
use Rattle.plan.specs.declared.fault.PlanFault.TheVariants.{ConstraintLength, Period, Entry, BlockLength, SentLength, SymbolBits, FrameLength, Increment}

abbrev pub plan_number : PlanFault → ℕ
plan_number ConstraintLength = 1
plan_number Period = 2
plan_number Entry = 3
plan_number BlockLength = 4
plan_number SentLength = 5
plan_number SymbolBits = 6
plan_number FrameLength = 7
plan_number Increment = 8

-- a carried fault has its own number; want of memory has one that no question has
abbrev pub chain_number : ChainFault → ℕ
chain_number (Plan fault) = plan_number fault
chain_number Row = 9
chain_number Scrambler = 10
chain_number Fit = 11
chain_number Block = 12
chain_number TooShort = 13
chain_number Place = 14
chain_number Index = 15
chain_number Mapping = 16
chain_number Location = 17
chain_number OutOfMemory = 255

-- what a call answered: 0 where it was accepted, else its fault's number
abbrev pub outcome : {X E : Type 0} → (E → ℕ) → Result X E → ℕ
outcome number (Ok x) = 0
outcome number (Err fault) = number fault
