-- The questions of sending, answered one after the other.
-- Assumes nothing.
use Rattle.std.proofs.Common.{◌≡◌, ℕ, ◌*◌, ◌≤◌, Bool, true, false, cond, not, ltb, List, sym, refl, ap, ◌∙◌, arith}
use Rattle.std.proofs.lemmas.Bool.{le-ltb, cond-false}
use Rattle.plan.specs.Scheme.{Scheme}
use Rattle.code.specs.Answers.{encode_answer}
use Rattle.code.specs.Coding.{is_block}
use Rattle.scrambler.specs.Meaning.{Meaning}
use Rattle.sender.specs.Answers.{send_answer}
use Rattle.sender.specs.Scrambling.{fits}
use Rattle.sender.specs.Transmission.{symbols}

yes_first : (b : Bool) (rest : ℕ) → 0 ≡ cond (not b) 12 rest → b ≡ true
yes_first true rest e = refl
yes_first false rest e = absurd (omega arith)

-- what is encoded is a block
pub block_encoded : (s : Scheme) (block : List ℕ) (room : ℕ) → 0 ≡ encode_answer s block room → is_block s block ≡ true
block_encoded s block room e = yes_first (is_block s block) _ e

-- with a scrambler that fits, the block and the room are asked
pub fit_passes : (s : Scheme) (m : Meaning) (block : List ℕ) (room : ℕ) → fits s m ≡ true → send_answer s m block room ≡ cond (not (is_block s block)) 12 (cond (ltb room (symbols s)) 13 0)
fit_passes s m block room fit = ap (λ b. cond (not b) 11 (cond (not (is_block s block)) 12 (cond (ltb room (symbols s)) 13 0))) fit

first_no : (b : Bool) (x y answer : ℕ) → x ≡ 0 → answer ≡ cond (not b) 12 x → (answer ≡ 0 → ⊥) → answer ≡ cond (not b) 12 y
first_no true x y answer z e wrong = absurd (wrong (e ∙ z))
first_no false x y answer z e wrong = e

-- what is not encoded, though there is room for the code word, is no block
pub block_refused : (s : Scheme) (block : List ℕ) (long room answer : ℕ) → 2 * s.block ≤ long → answer ≡ encode_answer s block long → (answer ≡ 0 → ⊥) →
    answer ≡ cond (not (is_block s block)) 12 (cond (ltb room (symbols s)) 13 0)
block_refused s block long room answer enough e wrong =
    first_no (is_block s block) _ _ answer (cond-false (ltb long (2 * s.block)) 13 0 (le-ltb long (2 * s.block) enough)) e wrong

pub all_yes : (s : Scheme) (m : Meaning) (block : List ℕ) (room : ℕ) → fits s m ≡ true → is_block s block ≡ true → symbols s ≤ room → 0 ≡ send_answer s m block room
all_yes s m block room fit is long =
    sym (fit_passes s m block room fit
    ∙ ap (λ b. cond (not b) 12 (cond (ltb room (symbols s)) 13 0)) is
    ∙ cond-false (ltb room (symbols s)) 13 0 (le-ltb room (symbols s) long))
