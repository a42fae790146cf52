-- The sentence that says a fault to a person.
-- Assumes nothing.
use Rattle.std.specs.Prelude.{ℕ, List, codes}
use Rattle.plan.specs.declared.fault.ChainFault.{ChainFault}
use Rattle.plan.specs.declared.fault.ChainFault.TheVariants.{Plan, Row, Scrambler, Fit, Block, TooShort, Place, Index, Mapping, Location, OutOfMemory}
use Rattle.plan.specs.declared.fault.PlanFault.{PlanFault}
use Rattle.plan.specs.declared.fault.PlanFault.TheVariants.{ConstraintLength, Period, Entry, BlockLength, SentLength, SymbolBits, FrameLength, Increment}

abbrev pub plan_sentence : PlanFault → List ℕ
plan_sentence ConstraintLength = codes "the constraint length is neither 7 nor 9"
plan_sentence Period = codes "the period is not from 1 to 12, or the send list has not 1 to 32 entries"
plan_sentence Entry = codes "an entry of the send list is not below twice the period"
plan_sentence BlockLength = codes "the block length is not from 9 to 1,843,200, or no multiple of the period"
plan_sentence SentLength = codes "more than 2,211,840 bits would be sent"
plan_sentence SymbolBits = codes "the bits of a symbol are none of 1, 2, 3, 4, 5, 6, 8"
plan_sentence FrameLength = codes "the frame length is not from 1 to 4,096, or the frames are not filled exactly"
plan_sentence Increment = codes "the increment is not from 1 to the sent length, or shares a divisor with it"

-- a carried fault has its own sentence
abbrev pub chain_sentence : ChainFault → List ℕ
chain_sentence (Plan fault) = plan_sentence fault
chain_sentence Row = codes "the standard has no such row"
chain_sentence Scrambler = codes "the scrambler's width is none of 3, 4, 5, 6, 8, or its values do not fit"
chain_sentence Fit = codes "the scrambler has not the width that the plan needs, or is shorter than a frame"
chain_sentence Block = codes "the block has not the plan's length, or a byte of it is neither 0 nor 1"
chain_sentence TooShort = codes "a given memory is too short"
chain_sentence Place = codes "the symbol place is past the last symbol"
chain_sentence Index = codes "the on-air index or the weight is too great"
chain_sentence Mapping = codes "the unscrambled symbol stands for no bits"
chain_sentence Location = codes "the location is past the last one, or the value is out of range"
chain_sentence OutOfMemory = codes "out of memory"
