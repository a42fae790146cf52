-- Lines that are answered one after the other.
-- Assumes nothing.
use Rattle.std.proofs.Common.{◌≡◌, ℕ, suc, ◌+◌, List, [], ◌∷◌, ◌++◌, length, sym, refl, ap, ◌∙◌, subst, append_assoc, arith, length-take}
use Rattle.std.specs.Prelude.{◌==◌}
use Rattle.std.proofs.lemmas.Bool.{ne_eqb, cond-false}
use Rattle.std.proofs.lemmas.List.{append-nil}
use Rattle.lines.specs.Answers.{answer_text}
use Rattle.lines.specs.Inputs.{kept_of}
use Rattle.lines.specs.Streams.{lines_from}
use Rattle.lines.specs.declared.answer.Answer.{Answer}
use Rattle.session.specs.Held.{Held}
use Rattle.bench.specs.Answering.{Replied, Answered}

-- one line more
pub answered_more : (n : ℕ) (lines : List (List ℕ)) (line : List ℕ) (h between now : Held) (text : List ℕ) (reply : Answer) → Answered n lines h between text →
    Replied (n + length lines) line between now reply → Answered n (lines ++ (line ∷ [])) h now (text ++ answer_text reply)
answered_more n [] line h between now text reply a r = (
  now,
  reply,
  [],
  subst (λ m. Replied m line h now reply) (let e : n + 0 ≡ n = omega arith in e) (subst (λ x. Replied (n + 0) line x now reply) a.0 r),
  (refl, refl),
  (λ i. a.1 i ++ answer_text reply) ∙ sym (append-nil (answer_text reply)),
)
answered_more n (first ∷ lines) line h between now text reply a r = (
  a.0,
  a.1,
  a.2 ++ answer_text reply,
  a.3,
  answered_more (n + 1) lines line a.0 between now a.2 reply a.4 (subst (λ m. Replied m line between now reply) (let e : n + suc (length lines) ≡ n + 1 + length lines = omega arith in e) r),
  (λ i. a.5 i ++ answer_text reply) ∙ append_assoc (answer_text a.1) a.2 (answer_text reply),
)

-- what was read behind the last line feed is a line
pub last_line : (begun kept : List ℕ) → kept ≡ kept_of begun → (length kept ≡ 0 → ⊥) → lines_from begun [] ≡ begun ∷ []
last_line [] kept e some = absurd (some (omega (arith, ap length e, length-take {A = ℕ} 2081 [])))
last_line (x ∷ begun) kept e some = cond-false (length (x ∷ begun) == 0) [] ((x ∷ begun) ∷ []) (ne_eqb (length (x ∷ begun)) 0 (λ z. absurd (omega (arith, z))))

-- or nothing was
pub no_line : (begun kept : List ℕ) → kept ≡ kept_of begun → length kept ≡ 0 → lines_from begun [] ≡ []
no_line [] kept e none = refl
no_line (x ∷ begun) kept e none = absurd (omega (arith, none, ap length e, length-take 2081 (x ∷ begun)))
