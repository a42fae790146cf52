-- What is written to a line.
-- Assumes nothing.
use Rattle.std.specs.Prelude.{ℕ, cond, List, [], ◌∷◌, ◌++◌, map, codes, ◌==◌}
use Rattle.std.specs.Fmt.{decimal}
use Rattle.lines.specs.Faults.{line_number}
use Rattle.lines.specs.declared.fault.LineFault.{LineFault}
use Rattle.lines.specs.declared.fault.LineFault.TheVariants.{Chain, Form, Order, Size}
use Rattle.plan.specs.declared.fault.ChainFault.{ChainFault}
use Rattle.plan.specs.declared.fault.ChainFault.TheVariants.{Plan, Row, Scrambler, Fit, Block, TooShort, Place, Index, Mapping, Location, OutOfMemory}
use Rattle.plan.specs.declared.fault.PlanFault.{PlanFault}
use Rattle.plan.specs.declared.fault.PlanFault.TheVariants.{ConstraintLength, Period, Entry, BlockLength, SentLength, SymbolBits, FrameLength, Increment}

-- the questions of a plan
abbrev pub plan_question : PlanFault → List ℕ
plan_question ConstraintLength = codes "Is the constraint length 7 or 9?"
plan_question Period = codes "Is the period from 1 to 12, and has the send list 1 to 32 entries?"
plan_question Entry = codes "Is every entry below twice the period?"
plan_question BlockLength = codes "Is the block length from 9 to 1,843,200, and a multiple of the period?"
plan_question SentLength = codes "Is the sent length at most 2,211,840?"
plan_question SymbolBits = codes "Are the bits of a symbol 1, 2, 3, 4, 5, 6 or 8?"
plan_question FrameLength = codes "Is the frame length from 1 to 4,096, and the sent length a multiple of bits of a symbol x frame length?"
plan_question Increment = codes "Is the increment from 1 to the sent length, sharing no divisor above 1 with it?"

-- the questions of the chain's calls
abbrev pub chain_question : ChainFault → List ℕ
chain_question (Plan fault) = plan_question fault
chain_question Row = codes "Does the standard's table have this bandwidth, waveform and interleaver?"
chain_question Scrambler = codes "Is the scrambler's width 3, 4, 5, 6 or 8, and has a table 1 to 4,096 values, each below 2 to the power of that width?"
chain_question Fit = codes "Is the scrambler's width the needed one, and its reach at least the frame length?"
chain_question Block = codes "Is the block as long as the plan says, each byte 0 or 1?"
chain_question TooShort = codes "Is every given memory long enough?"
chain_question Place = codes "Is the symbol place below N / q?"
chain_question Index = codes "Is the index below 8 (q up to 3) or 2 to the power q, and the weight at most 32,767?"
chain_question Mapping = codes "Is the unscrambled symbol in the mapping for q?"
chain_question Location = codes "Is the location below N, and the value from -32,767 to 32,767?"
chain_question OutOfMemory = codes "Has the machine memory left?"

-- the question that was answered no
abbrev pub question : LineFault → List ℕ
question (Chain fault) = chain_question fault
question Form = codes "Has the line one of the forms that are read, in at most 2,080 characters?"
question Order = codes "Was a plan accepted before this table, and a table accepted since the last such plan before this call?"
question Size = codes "Are the block length at most 256 and the sent length at most 1,024?"

-- the answer to a refused line: the fault's number, the line's, and what was asked
abbrev pub refusal_text : LineFault → ℕ → List ℕ
refusal_text fault line = codes "# refused " ++ decimal (line_number fault) ++ codes " line " ++ decimal line ++ codes ": " ++ question fault ++ (10 ∷ [])

-- a block's bits as characters 0 and 1
abbrev pub bits_text : List ℕ → List ℕ
bits_text block = map (λ b. cond (b == 1) 49 48) block
