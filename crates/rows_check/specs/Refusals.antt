-- What is said of rows that are asked for.
-- Assumes nothing.
use Rattle.std.specs.Prelude.{◌≡◌, ℕ, ◌⊎◌, List, [], ◌∷◌, ◌++◌, codes, Some}
use Rattle.std.specs.Fmt.{decimal}
use Rattle.plan.specs.Faults.{chain_number}
use Rattle.plan.specs.Scheme.{Scheme, sent_length}
use Rattle.plan.specs.Sentences.{chain_sentence}
use Rattle.plan.specs.declared.fault.ChainFault.{ChainFault}
use Rattle.rows.specs.Schemes.{row_answer, row_scheme, Answered}
use Rattle.rows.specs.declared.row.Row.{Row}

-- a row and a constraint length
abbrev pub question_text : Row → ℕ → List ℕ
question_text row k =
    decimal row.bandwidth ++ (codes " " ++ (decimal row.waveform ++ (codes " " ++ (decimal row.interleaver ++ (codes " with " ++ (decimal k ++ codes ": "))))))

-- the sizes of a plan
abbrev pub sizes_text : ℕ → ℕ → ℕ → List ℕ
sizes_text block sent frame = codes "block " ++ (decimal block ++ (codes ", sent " ++ (decimal sent ++ (codes ", frame " ++ (decimal frame ++ codes "\n")))))

-- the sizes of a row's plan; or the sentence of the question that is answered no, or that there is no memory
abbrev pub IsAnswer : Row → ℕ → List ℕ → Type 0
IsAnswer row k text =
    ((s : Scheme) × Answered 0 (row_answer row k) × ((Some s ≡ row_scheme row k) × (text ≡ sizes_text s.block (sent_length s) s.frame)))
    ⊎ ((fault : ChainFault) × Answered (chain_number fault) (row_answer row k) × (text ≡ chain_sentence fault ++ codes "\n"))

-- behind what is asked for
abbrev pub IsLine : Row → ℕ → List ℕ → Type 0
IsLine row k text = (said : List ℕ) × IsAnswer row k said × (text ≡ question_text row k ++ said)

-- what is asked for: rows by their three numbers, and constraint lengths
abbrev pub asked : List (ℕ × ℕ × ℕ × ℕ)
asked = (18, 4, 0, 7) ∷ (6, 13, 0, 9) ∷ (24, 0, 1, 7) ∷ (24, 1, 4, 7) ∷ (40, 1, 4, 8) ∷ (24, 1, 0, 8) ∷ (24, 1, 0, 9) ∷ []

-- a line for each
abbrev pub AreLines : List (ℕ × ℕ × ℕ × ℕ) → List ℕ → Type 0
AreLines [] text = text ≡ []
AreLines (q ∷ qs) text =
    (first : List ℕ) × IsLine (record { bandwidth = q.0; waveform = q.1; interleaver = q.2 }) q.3 first × ((rest : List ℕ) × AreLines qs rest × (text ≡ first ++ rest))
