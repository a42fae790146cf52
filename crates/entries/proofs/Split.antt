-- Where the first word of a text ends.
-- Assumes nothing.
use Rattle.std.proofs.Common.{◌≡◌, ℕ, zero, suc, ◌+◌, ◌<◌, ◌≤◌, true, false, cond, List, [], ◌∷◌, ◌++◌, length, get_or, take, drop, sym, refl, ap, ◌∙◌, append_assoc, arith, length-drop}
use Rattle.std.proofs.lemmas.List.{append-nil, get_or-drop}
use Rattle.std.proofs.lemmas.Bool.{false≢true}
use Rattle.entries.specs.Words.{white, words_from, words}

-- white space in front is no part of a word
pub past_gap : (n : ℕ) (text : List ℕ) → n ≤ length text → ((k : ℕ) → k < n → white (get_or text k 0) ≡ true) → words text ≡ words (drop n text)
past_gap zero text le h = refl
past_gap (suc n) [] le h = absurd (omega arith)
past_gap (suc n) (b ∷ text) le h =
    let first : white b ≡ true = h 0 (omega arith) in
    ap (λ t. cond t (words text) (words_from (b ∷ []) text)) first ∙ past_gap n text (omega arith) (λ k lt. h (suc k) (omega arith))

-- what follows a word begins with white space, or is nothing
after_word : (c : ℕ) (begun text : List ℕ) → (0 < length text → white (get_or text 0 0) ≡ true) → words_from (c ∷ begun) text ≡ (c ∷ begun) ∷ words text
after_word c begun [] h = refl
after_word c begun (b ∷ text) h =
    let first : white b ≡ true = h (omega arith) in
    ap (λ t. cond t ((c ∷ begun) ∷ words text) (words_from ((c ∷ begun) ++ (b ∷ [])) text)) first
    ∙ ap (λ l. (c ∷ begun) ∷ l) (sym (ap (λ t. cond t (words text) (words_from (b ∷ []) text)) first))

word_ends : (n c : ℕ) (begun text : List ℕ) → n ≤ length text → ((k : ℕ) → k < n → white (get_or text k 0) ≡ false) →
    (n < length text → white (get_or text n 0) ≡ true) → words_from (c ∷ begun) text ≡ ((c ∷ begun) ++ take n text) ∷ words (drop n text)
word_ends zero c begun text le h k = after_word c begun text k ∙ ap (λ l. l ∷ words text) (sym (append-nil (c ∷ begun)))
word_ends (suc n) c begun [] le h k = absurd (omega arith)
word_ends (suc n) c begun (b ∷ text) le h k =
    let first : white b ≡ false = h 0 (omega arith) in
    ap (λ t. cond t ((c ∷ begun) ∷ words text) (words_from ((c ∷ begun) ++ (b ∷ [])) text)) first
    ∙ word_ends n c (begun ++ (b ∷ [])) text (omega arith) (λ j lt. h (suc j) (omega arith)) (λ lt. k (omega arith))
    ∙ ap (λ l. l ∷ words (drop n text)) (append_assoc (c ∷ begun) (b ∷ []) (take n text))

-- a text that does not begin with white space is a word and what follows it
pub first_word : (n : ℕ) (text : List ℕ) → 0 < length text → white (get_or text 0 0) ≡ false → n ≤ length text → ((k : ℕ) → k < n → white (get_or text k 0) ≡ false) →
    (n < length text → white (get_or text n 0) ≡ true) → words text ≡ take n text ∷ words (drop n text)
first_word n [] some first le h k = absurd (omega arith)
first_word zero (b ∷ text) some first le h k = absurd (false≢true (sym first ∙ k (omega arith)))
first_word (suc n) (b ∷ text) some first le h k =
    ap (λ t. cond t (words text) (words_from (b ∷ []) text)) first
    ∙ word_ends n b [] text (omega arith) (λ j lt. h (suc j) (omega arith)) (λ lt. k (omega arith))

pub no_words : (text : List ℕ) → length text ≡ 0 → words text ≡ []
no_words [] e = refl
no_words (b ∷ text) e = absurd (omega arith)

-- past the gap, a word of n bytes and what follows it
pub word_and_rest : (g n : ℕ) (text rest word more : List ℕ) → rest ≡ drop g text → g ≤ length text → ((k : ℕ) → k < g → white (get_or text k 0) ≡ true) →
    (g < length text → white (get_or text g 0) ≡ false) → 0 < length rest → n ≤ length rest → ((k : ℕ) → k < n → white (get_or rest k 0) ≡ false) →
    (n < length rest → white (get_or rest n 0) ≡ true) → word ≡ take n rest → more ≡ drop n rest → words text ≡ word ∷ words more
word_and_rest g n text rest word more is le before after some within plain ends front back =
    let long = length-drop g text in
    let left : length rest ≡ length (drop g text) = ap length is in
    let first : white (get_or rest 0 0) ≡ false = ap (λ l. white (get_or l 0 0)) is ∙ ap white (get_or-drop g text 0 0)
    ∙ ap (λ k. white (get_or text k 0)) (let e : g + 0 ≡ g = omega arith in e) ∙ after (omega arith) in
    past_gap g text le before ∙ ap words (sym is) ∙ first_word n rest some first within plain ends ∙ (λ i. sym front i ∷ words (sym back i))
