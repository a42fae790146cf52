-- Lemmas on the words of a request.
-- Assumes nothing.
use Rattle.std.proofs.Common.{◌≡◌, ◌≢◌, ℕ, zero, suc, ◌+◌, ◌<◌, ◌≤◌, ◌⊎◌, List, [], ◌∷◌, ◌++◌, Bool, true, false, length, not, get_or, take, drop, map, sym, refl, ap, ◌∙◌, subst, inl, inr, arith, rules, Ok, Err, Result, Some, None, MatchResult, nat_eq, codes, cond, add-one, drop-cons}
use Rattle.std.specs.Prelude.{string_bytes, String, unwrap_or}
use Rattle.std.specs.List.{position_or_len, position, AllByRecursion}
use Rattle.std.specs.declared.alloc.Global.{Global}
use Rattle.std.proofs.lemmas.List.{take-map, drop-map}
use Rattle.std.proofs.lemmas.List.Sums.{prefix_len-le-length}
use Rattle.std.proofs.lemmas.Bool.Decides.{nat_tests}
use Rattle.curve.specs.Sentences.{slip_sentence}
use Rattle.curve.specs.Words.{bytes_of, Names, RefusesFour, NamesRow, RefusesRow, HasValue, LacksNumber, IsNoName, IsOption, RefusesOption, IsUnknown, valued, SetsAll, RefusesAll, is_dashed, row_words, option_words, CanRun, AsksRun, BeginsWithRow}
use Rattle.curve.specs.Usual.{usual_choice, usual_run}
use Rattle.curve.specs.declared.choice.Choice.{Choice}
use Rattle.curve.specs.declared.choice.Run.{Run}
use Rattle.curve.specs.declared.request.Setting.{Setting}
use Rattle.curve.specs.declared.request.Setting.TheVariants.{From, To, Blocks, Seed, Svg}
use Rattle.curve.specs.declared.trouble.Slip.{Slip}

-- a list of four
four_items : {X : Type 0} (xs : List X) (a b c d : X) → length xs ≡ 4 → a ≡ get_or xs 0 a → b ≡ get_or xs 1 b → c ≡ get_or xs 2 c → d ≡ get_or xs 3 d →
    xs ≡ a ∷ b ∷ c ∷ d ∷ []
four_items [] a b c d n p q r s = absurd (omega arith)
four_items (x ∷ []) a b c d n p q r s = absurd (omega arith)
four_items (x ∷ y ∷ []) a b c d n p q r s = absurd (omega arith)
four_items (x ∷ y ∷ z ∷ []) a b c d n p q r s = absurd (omega arith)
four_items (x ∷ y ∷ z ∷ w ∷ []) a b c d n p q r s = cc
four_items (x ∷ y ∷ z ∷ w ∷ v ∷ us) a b c d n p q r s = absurd (omega arith)

-- four words name a row as their texts do
pub named_by_four : (ws : List (String Global)) (b w i k : String Global) (tb tw ti tk : List ℕ) (r : Result Choice Slip) → length ws ≡ 4 →
    b ≡ get_or ws 0 b → w ≡ get_or ws 1 w → i ≡ get_or ws 2 i → k ≡ get_or ws 3 k →
    tb ≡ string_bytes b → tw ≡ string_bytes w → ti ≡ string_bytes i → tk ≡ string_bytes k →
    MatchResult r (λ c. Names tb tw ti tk c) (λ slip. RefusesFour tb tw ti tk (slip_sentence slip)) →
    MatchResult r (λ c. NamesRow (bytes_of ws) c) (λ slip. RefusesRow (bytes_of ws) (slip_sentence slip))
named_by_four ws b w i k tb tw ti tk r n p q s t eb ew ei ek h =
    let items : ws ≡ b ∷ w ∷ i ∷ k ∷ [] = four_items ws b w i k n p q s t in
    let texts : bytes_of ws ≡ tb ∷ tw ∷ ti ∷ tk ∷ [] = ap bytes_of items ∙ cc in
    subst (λ l. MatchResult r (λ c. NamesRow l c) (λ slip. RefusesRow l (slip_sentence slip))) (sym texts) h

-- the words from a place on
pub drop_words : (ws : List (String Global)) (i : ℕ) (w : String Global) (t : List ℕ) → i < length ws → w ≡ get_or ws i w → t ≡ string_bytes w →
    bytes_of (drop i ws) ≡ t ∷ bytes_of (drop (i + 1) ws)
drop_words ws i w t h p q =
    let here : drop i ws ≡ get_or ws i w ∷ drop (i + 1) ws = rw (add-one, drop-cons ws i w) in
    ap bytes_of here ∙ (λ k. string_bytes (sym p k) ∷ bytes_of (drop (i + 1) ws)) ∙ (λ k. sym q k ∷ bytes_of (drop (i + 1) ws))

-- the same text cut at its first equals sign has the same front
same_front : (xs ys us vs : List ℕ) → AllByRecursion (λ b. b ≢ 61) xs → ((i : ℕ) → i < length ys → get_or ys i 0 ≢ 61) → xs ++ (61 ∷ us) ≡ ys ++ (61 ∷ vs) → ys ≡ xs
same_front [] [] us vs a b e = refl
same_front [] (y ∷ ys) us vs a b e = let y_is : y ≡ 61 = cc in absurd (b 0 (omega arith) y_is)
same_front (x ∷ xs) [] us vs a b e = let x_is : x ≡ 61 = cc in absurd (a.0 x_is)
same_front (x ∷ xs) (y ∷ ys) us vs a b e =
    let first : y ≡ x = cc in
    let rest : xs ++ (61 ∷ us) ≡ ys ++ (61 ∷ vs) = cc in
    let later : (i : ℕ) → i < length ys → get_or ys i 0 ≢ 61 = λ i h. b (suc i) (omega arith) in
    let same = same_front xs ys us vs a.1 later rest in
    cc

-- a word with an equals sign is no lone name
has_equals : (xs ys vs : List ℕ) → AllByRecursion (λ b. b ≢ 61) xs → xs ≡ ys ++ (61 ∷ vs) → ⊥
has_equals [] [] vs a e = cc
has_equals [] (y ∷ ys) vs a e = cc
has_equals (x ∷ xs) [] vs a e = let x_is : x ≡ 61 = cc in a.0 x_is
has_equals (x ∷ xs) (y ∷ ys) vs a e = has_equals xs ys vs a.1 cc

-- a name that no option has stays so however the word is cut
unknown_word : (word name value : List ℕ) → word ≡ valued name value → ((i : ℕ) → i < length name → get_or name i 0 ≢ 61) → IsNoName name → IsUnknown word
unknown_word word name value e lacks none =
    let cut : (other rest text : List ℕ) → AllByRecursion (λ b. b ≢ 61) text → word ≡ valued other rest → (name ≢ text) → other ≢ text = λ other rest text a q no same.
    no (same_front text name rest value a lacks (ap (λ l. l ++ (61 ∷ rest)) (sym same) ∙ sym q ∙ e)) in (
      (λ svg. has_equals (codes "--svg") name value (search rules) (sym svg ∙ e)),
      (λ other rest q. (
        cut other rest (codes "--from") (search rules) q none.0,
        cut other rest (codes "--to") (search rules) q none.1,
        cut other rest (codes "--blocks") (search rules) q none.2,
        cut other rest (codes "--seed") (search rules) q none.3,
      )),
    )

-- what a name and a value are, the word of both is
pub valued_word : (word name value : List ℕ) (r : Result Setting Slip) → word ≡ valued name value → ((i : ℕ) → i < length name → get_or name i 0 ≢ 61) →
    MatchResult r (λ s. HasValue name value s) (λ slip. LacksNumber name value (slip_sentence slip) ⊎ (IsNoName name × (slip_sentence slip ≡ codes "there is no such word or option"))) →
    MatchResult r (λ s. IsOption word s) (λ slip. RefusesOption word (slip_sentence slip))
valued_word word name value (Ok (From z)) e lacks h = (name, value, e, h)
valued_word word name value (Ok (To z)) e lacks h = (name, value, e, h)
valued_word word name value (Ok (Blocks z)) e lacks h = (name, value, e, h)
valued_word word name value (Ok (Seed z)) e lacks h = (name, value, e, h)
valued_word word name value (Ok Svg) e lacks h = absurd h
valued_word word name value (Err slip) e lacks (inl h) = inl (name, value, e, h)
valued_word word name value (Err slip) e lacks (inr h) = inr (unknown_word word name value e lacks h.0, h.1)

-- where the first word with dashes stands among words
pub dashed_place : (ws : List (String Global)) → position_or_len (λ w. is_dashed (string_bytes w)) ws ≡ position_or_len is_dashed (bytes_of ws)
dashed_place [] = refl
dashed_place (w ∷ ws) = ap (λ n. cond (not (is_dashed (string_bytes w))) (1 + n) 0) (dashed_place ws)

-- the first place, or the length where there is none
pub place_or_length : {X : Type 0} (p : X → Bool) (xs : List X) → unwrap_or (position p xs) (length xs) ≡ position_or_len p xs
place_or_length p xs = grind (arith, nat_tests, prefix_len-le-length (λ x. not (p x)) xs)

-- the words in front of the options, and the options
pub cut_words : (ws front back : List (String Global)) (n : ℕ) → n ≡ position_or_len is_dashed (bytes_of ws) → front ≡ take n ws → back ≡ drop n ws →
    (bytes_of front ≡ row_words (bytes_of ws)) × (bytes_of back ≡ option_words (bytes_of ws))
cut_words ws front back n p f b =
    (ap bytes_of f ∙ sym (take-map string_bytes n ws) ∙ ap (λ k. take k (bytes_of ws)) p, ap bytes_of b ∙ sym (drop-map string_bytes n ws) ∙ ap (λ k. drop k (bytes_of ws)) p)

-- a word that stands first
pub first_word : (ws : List (String Global)) (w : String Global) (t text : List ℕ) → 1 ≤ length ws → w ≡ get_or ws 0 w → t ≡ string_bytes w → t ≡ text →
    (rest : List (List ℕ)) × (bytes_of ws ≡ text ∷ rest)
first_word ws w t text h p q e = (bytes_of (drop 1 ws), drop_words ws 0 w t h p q ∙ (λ k. e k ∷ bytes_of (drop 1 ws)))

-- no words ask for the usual run
pub usual_words : (ws : List (String Global)) (run : Run) → length ws < 1 → run ≡ usual_run → BeginsWithRow (bytes_of ws) × AsksRun (bytes_of ws) run
usual_words [] run h e = let can : CanRun usual_run = search rules in (tt, (usual_choice, refl, e, subst CanRun (sym e) can))
usual_words (w ∷ ws) run h e = absurd (omega arith)
