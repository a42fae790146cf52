-- A text of bits with one byte more, and its blocks.
-- Assumes nothing.
use Rattle.std.proofs.Common.{◌≡◌, ℕ, true, false, cond, not, List, [], ◌∷◌, ◌++◌, length, Ok, Err, Result, sym, refl, ap, ◌∙◌, subst, append_assoc, append-nil, arith}
use Rattle.std.specs.Prelude.{◌&&◌, OnOk, MatchResult}
use Rattle.std.specs.List.{flat_map}
use Rattle.std.proofs.lemmas.Bool.{lt-ltb, le-ltb, eq-eqb}
use Rattle.std.proofs.lemmas.Grind.{flat_map-append}
use Rattle.bits_text.specs.Readings.{line_after}
use Rattle.bits_text.specs.Texts.{Bits, Says}
use Rattle.plan.specs.Questions.{all_below}
use Rattle.plan.specs.Scheme.{Scheme}
use Rattle.scrambler.specs.Meaning.{Meaning}
use Rattle.sender.specs.Answers.{making_answer, send_answer}
use Rattle.sender.specs.Scrambling.{fits}
use Rattle.sender.specs.Transmission.{symbols}
use Rattle.sender.proofs.Outcomes.{positive}
use Rattle.laboratory.specs.Sending.{Unsent}
use Rattle.laboratory.specs.Strays.{line_behind}
use Rattle.laboratory.specs.TextSending.{TextRefused}
use Rattle.laboratory.specs.declared.trouble.Trouble.{Trouble}
use Rattle.laboratory.specs.declared.trouble.Trouble.TheVariants.{Chain, Bits as Stray, Unfinished, Value, Endless, Outside}

pub joined_push : (bs : List (List ℕ)) (b : List ℕ) → flat_map (λ b. b) (bs ++ b ∷ []) ++ [] ≡ flat_map (λ b. b) bs ++ b
joined_push bs b =
    append-nil (flat_map (λ b. b) (bs ++ b ∷ [])) ∙ flat_map-append (λ b. b) bs (b ∷ []) ∙ ap (λ l. flat_map (λ b. b) bs ++ l) (append-nil b)

-- the block in hand is whole
pub said_whole : (text : List ℕ) (bs : List (List ℕ)) (b now : List ℕ) → Says text (flat_map (λ b. b) bs ++ b) → now ≡ [] → Says text (flat_map (λ b. b) (bs ++ b ∷ []) ++ now)
said_whole text bs b now h e = subst (Says text) (sym (joined_push bs b) ∙ ap (λ l. flat_map (λ b. b) (bs ++ b ∷ []) ++ l) (sym e)) h

-- a bit more in the block in hand
pub said_bit : (text : List ℕ) (bs : List (List ℕ)) (b more : List ℕ) (bit : ℕ) → Says text ((flat_map (λ b. b) bs ++ b) ++ bit ∷ []) → more ≡ b ++ bit ∷ [] → Says text (flat_map (λ b. b) bs ++ more)
said_bit text bs b more bit h e = subst (Says text) (append_assoc (flat_map (λ b. b) bs) b (bit ∷ []) ∙ ap (λ l. flat_map (λ b. b) bs ++ l) (sym e)) h

-- the whole text, with no block left in hand
pub said_all : (text xs : List ℕ) (bs : List (List ℕ)) (b : List ℕ) → Says text (flat_map (λ b. b) bs ++ b) → b ≡ [] → xs ≡ text → Says xs (flat_map (λ b. b) bs)
said_all text xs bs b h e f =
    subst (λ t. Says t (flat_map (λ b. b) bs)) (sym f) (subst (Says text) (ap (λ l. flat_map (λ b. b) bs ++ l) e ∙ append-nil (flat_map (λ b. b) bs)) h)

pub on_ok_map : {T E : Type 0} {P Q : Type 0} (r : Result T E) → (P → Q) → OnOk r P → OnOk r Q
on_ok_map (Ok x) f h = f h
on_ok_map (Err e) f h = tt

pub match_map : {T E : Type 0} {P Q : Type 0} {R S : E → Type 0} (r : Result T E) → (P → Q) → ((e : E) → R e → S e) → MatchResult r (λ _. P) R → MatchResult r (λ _. Q) S
match_map (Ok x) f k h = f h
match_map (Err e) f k h = k e h

bits_below : (b : List ℕ) → Bits b → all_below 2 b ≡ true
bits_below [] h = refl
bits_below (x ∷ b) h = λ k. lt-ltb x 2 h.0 k && bits_below b h.1 k

bits_behind : (xs b : List ℕ) → Bits (xs ++ b) → Bits b
bits_behind [] b h = h
bits_behind (x ∷ xs) b h = bits_behind xs b h.1

-- a block that is held is sent
pub block_sent : (s : Scheme) (m : Meaning) (before b : List ℕ) → fits s m ≡ true → length b ≡ s.block → Bits (before ++ b) → send_answer s m b (symbols s) ≡ 0
block_sent s m before b fit long bits = λ k.
    cond (not (fit k)) 11
    (cond (not (eq-eqb (length b) s.block long k && bits_below b (bits_behind before b bits) k)) 12
    (cond (le-ltb (symbols s) (symbols s) (omega arith) k) 13 0))

pub not_sent : (answer n : ℕ) (e : Trouble) → answer ≡ 0 → Unsent answer e → Unsent n e
not_sent answer n (Chain fault) z h = absurd (positive fault (h ∙ z))
not_sent answer n (Outside error) z h = tt
not_sent answer n (Stray name stray) z h = absurd h
not_sent answer n (Unfinished bits length) z h = absurd h
not_sent answer n (Value line) z h = absurd h
not_sent answer n Endless z h = absurd h

pub unsent_told : (s : Scheme) (m : Meaning) (text : List ℕ) (e : Trouble) → Unsent (making_answer s m false) e → TextRefused s m text e
unsent_told s m text (Chain fault) h = h
unsent_told s m text (Outside error) h = tt
unsent_told s m text (Stray name stray) h = absurd h
unsent_told s m text (Unfinished bits length) h = absurd h
unsent_told s m text (Value line) h = absurd h
unsent_told s m text Endless h = absurd h

pub line_more : (line : ℕ) (text : List ℕ) (c : ℕ) → line_behind line (text ++ c ∷ []) ≡ line_after (line_behind line text) c
line_more line [] c = refl
line_more line (x ∷ text) c = line_more (line_after line x) text c
