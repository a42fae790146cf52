-- What the program says where it stops.
-- Assumes nothing.
use Rattle.std.specs.Prelude.{ℕ, List, [], ◌∷◌, ◌++◌, codes, Option, Some, None}
use Rattle.std.specs.Fmt.{decimal}
use Rattle.plan.specs.Faults.{chain_number}
use Rattle.entries.specs.Texts.{chain_question}
use Rattle.orders.specs.Texts.{sentence, usage_text}
use Rattle.laboratory.specs.declared.trouble.Trouble.{Trouble}
use Rattle.laboratory.specs.declared.trouble.Trouble.TheVariants.{Chain}
use Rattle.chain.specs.declared.stop.Stop.{Stop}
use Rattle.chain.specs.declared.stop.Stop.TheVariants.{Words, File, Work}

-- of a question of the chain its number and what was asked; of what the machine says of a file nothing is claimed, nor of the texts
abbrev pub trouble_text : Trouble → Option (List ℕ)
trouble_text (Chain fault) = Some (codes "refused " ++ decimal (chain_number fault) ++ codes ": " ++ chain_question fault)
trouble_text _ = None

-- of words that give no order what is wrong, and the usage
abbrev pub stop_text : Stop → Option (List ℕ)
stop_text (Words slip) = Some (sentence slip ++ (10 ∷ []) ++ usage_text)
stop_text (File name error) = None
stop_text (Work trouble) = trouble_text trouble
