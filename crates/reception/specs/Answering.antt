-- What is answered to a line.
-- Assumes nothing.
use Rattle.std.specs.Prelude.{◌≡◌, ℕ, ◌⊎◌, List, ℤ, None, Ok, Err, Option, Result}
use Rattle.entries.specs.Entries.{Writes}
use Rattle.entries.specs.Readings.{Idle}
use Rattle.entries.specs.declared.entry.Entry.{Entry}
use Rattle.lines.specs.declared.fault.LineFault.{LineFault}
use Rattle.lines.specs.declared.fault.LineFault.TheVariants.{Chain, Form}
use Rattle.plan.specs.declared.fault.ChainFault.{ChainFault}
use Rattle.receiver.specs.Views.{View}
use Rattle.score.specs.Scale.{Scale}
use Rattle.search.specs.Looking.{Lengths}
use Rattle.reception.specs.Taking.{Takes}

-- what an entry was answered, as the answer to its line
abbrev pub carried : {X : Type 0} → Result X ChainFault → Result X LineFault
carried (Ok x) = Ok x
carried (Err fault) = Err (Chain fault)

-- an entry's line is answered as the entry is; an empty line and a comment do nothing; any other line is refused, and does nothing
abbrev pub Answers : {S : Type 0} → Scale S → View → Lengths → List ℤ → List ℕ → Result (Option S) LineFault → List ℤ → List ℕ → Type 0
Answers {S} k v whole values line r left block =
    ((e : Entry) × Writes e line × ((q : Result (Option S) ChainFault) × Takes k v whole values e q left block × (r ≡ carried q)))
    ⊎ (Idle line × (r ≡ Ok None) × (left ≡ values))
    ⊎ (((e : Entry) → Writes e line → ⊥) × (Idle line → ⊥) × (r ≡ Err Form) × (left ≡ values))
