use Rattle.std.proofs.Common.{◌≡◌, ℕ, ◌<◌, List, ◌++◌, Some, length}
use Rattle.std.specs.Io.Iter.{bytes_remaining}
use Rattle.plan.specs.Plans.{plan_scheme}
use Rattle.laboratory.specs.TextSending.{Holding}
use Rattle.laboratory.proofs.text.send_text.Given as goal

-- what has come of the text is sent or in hand
abbrev pub invariant-loop-byte : goal.invariant-loop-byte
invariant-loop-byte g l =
    (xs : List ℕ) → g.R.Read.remaining l.fn.text ≡ Some xs
    → (text : List ℕ) × (ys : List ℕ) × (bs : List (List ℕ)) × (bytes_remaining g.R.Read.remaining l.byte-iterator ≡ Some ys) × (xs ≡ text ++ ys)
    × Holding g.S.Scrambler.meaning (plan_scheme l.fn.plan) (g.S.Scrambler.meaning l.fn.scrambler) l.sending text bs
    (g.W.Write.contents l.fn.output) (g.W.Write.contents l.output) (g.C.Write.contents l.fn.copy) (g.C.Write.contents l.copy)
    × (length l.sending.block.items < (plan_scheme l.fn.plan).block)
