-- What is said of a trouble.
-- Assumes nothing.
use Rattle.std.specs.Prelude.{ℕ, List, ◌++◌, Some, None, Option, codes}
use Rattle.std.specs.Fmt.{decimal}
use Rattle.bits_text.specs.Strays.{stray_text}
use Rattle.plan.specs.Faults.{chain_number}
use Rattle.plan.specs.Sentences.{chain_sentence}
use Rattle.laboratory.specs.declared.trouble.Trouble.{Trouble}
use Rattle.laboratory.specs.declared.trouble.Trouble.TheVariants.{Chain, Bits, Unfinished, Value, Endless, Outside}

-- an outside trouble is said in the system's words
abbrev pub trouble_text : Trouble → Option (List ℕ)
trouble_text (Chain fault) = Some (codes "refused " ++ (decimal (chain_number fault) ++ (codes ": " ++ chain_sentence fault)))
trouble_text (Bits text stray) = Some (text.now ++ (codes ", " ++ stray_text stray))
trouble_text (Unfinished bits length) = Some (codes "the last block has " ++ (decimal bits ++ (codes " bits, and a block of this row has " ++ decimal length)))
trouble_text (Value line) = Some (codes "the table, line " ++ (decimal line ++ codes ": something else than whole numbers up to 255"))
trouble_text Endless = Some (codes "a text has no end")
trouble_text (Outside error) = None
