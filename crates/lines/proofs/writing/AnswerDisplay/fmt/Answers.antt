use Rattle.std.proofs.Common.{◌≡◌, ℕ, List, [], ◌∷◌, ◌++◌, vec_items, sym, ap, ◌∙◌, append_assoc}
use Rattle.std.proofs.Output.{has_written_of_eq}
use Rattle.lines.specs.Answers.{bits_packed, answer_text}
use Rattle.lines.specs.Hex.{hex, big_endian}
use Rattle.lines.proofs.Digits.{hex_append}
use Rattle.lines.proofs.writing.AnswerDisplay.fmt.Goals as goal

shown_text : (score : ℕ) (first bits block : List ℕ) → first ≡ big_endian 8 score → bits ≡ block →
    76 ∷ (hex first ++ (hex (bits_packed bits) ++ 10 ∷ [])) ≡ 76 ∷ (hex (big_endian 8 score ++ bits_packed block) ++ 10 ∷ [])
shown_text score first bits block e f =
    ap (λ l. 76 ∷ l)
    ((λ i. hex (e i) ++ (hex (bits_packed (f i)) ++ 10 ∷ []))
    ∙ sym (append_assoc (hex (big_endian 8 score)) (hex (bits_packed block)) (10 ∷ []))
    ∙ ap (λ l. l ++ 10 ∷ []) (sym (hex_append (big_endian 8 score) (bits_packed block))))

pub returns-in-Shown-clause-writes : goal.returns-in-Shown-clause-writes
returns-in-Shown-clause-writes g c = λ plain ok.
    has_written_of_eq _ _ _ _ _
    (shown_text c.in-Shown.score c.score_bytes-score.result c.as_slice.result.now (vec_items c.in-Shown.block) c.score_bytes-score.ensures c.as_slice.ensures.value
    ∙ ap answer_text (sym c.in-Shown.is)) (c.write.ensures.writes plain ok)
