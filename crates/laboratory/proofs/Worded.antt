-- The words of a table's text, and their values.
-- Assumes nothing.
use Rattle.std.proofs.Common.{◌≡◌, ℕ, ◌+◌, ◌-◌, ◌<◌, ◌≤◌, ◌^◌, min, Bool, true, false, cond, List, [], ◌∷◌, ◌++◌, All, Some, None, Option, Err, length, get_or, sym, refl, ap, ◌∙◌, subst, append-nil, arith, ⊎_elim, inl}
use Rattle.std.specs.Prelude.{◌&&◌, nat_lt, IfSome}
use Rattle.std.specs.Char.{is_ascii_whitespace}
use Rattle.std.specs.List.{filter}
use Rattle.std.specs.Str.{NoCharPasses, all_ascii_digits}
use Rattle.std.specs.Str.Iter.{IsAsciiSeparator}
use Rattle.std.specs.Str.Parse.{IsNumeral, ParsesUnsigned, digits_value, without_leading_plus}
use Rattle.std.proofs.lemmas.Bool.{lt-ltb, ltb-true, and_parts, cases_lt, cond-false, false_from_ne_true}
use Rattle.std.proofs.lemmas.Bool.Decides.{nat_tests}
use Rattle.std.proofs.lemmas.List.{flat_map_more, get_or_default, map-append, nil_from_length}
use Rattle.std.proofs.lemmas.List.Elements.{All-head, All-tail}
use Rattle.std.proofs.lemmas.List.Splits.{slice_split-cons_yes, slice_split_none, slice_split_at}
use Rattle.std.proofs.lemmas.Str.{NoCharPasses-byte}
use Rattle.std.proofs.lemmas.Str.Parse.{IsNumeralModel, numerals_by_value, tells_all_ascii_digits}
use Rattle.std.specs.Io.BufRead.{drop_through, first_line, DropsThrough}
use Rattle.std.specs.Str.Lines.{lines}
use Rattle.plan.specs.Faults.{chain_number}
use Rattle.plan.specs.Scheme.{Scheme}
use Rattle.plan.specs.declared.fault.ChainFault.{ChainFault}
use Rattle.scrambler.specs.Questions.{making_answer}
use Rattle.sender.proofs.Outcomes.{positive}
use Rattle.laboratory.specs.TableText.{digits_byte, word_value, words, line_words, all_words, AreValues, WordsRefused, TableRead}
use Rattle.laboratory.specs.declared.trouble.Trouble.{Trouble}
use Rattle.laboratory.specs.declared.trouble.Trouble.TheVariants.{Chain, Bits, Unfinished, Value, Endless, Outside}
use Rattle.laboratory.proofs.FirstLine.{lines_next}

-- white space before a text
words_gap : (gap rest : List ℕ) → All (λ c. is_ascii_whitespace c ≡ true) gap → words (gap ++ rest) ≡ words rest
words_gap [] rest h = refl
words_gap (c ∷ gap) rest h =
    ap (filter (λ w. nat_lt 0 (length w))) (slice_split-cons_yes is_ascii_whitespace c (gap ++ rest) (All-head (λ c. is_ascii_whitespace c ≡ true) c gap h))
    ∙ words_gap gap rest (All-tail (λ c. is_ascii_whitespace c ≡ true) c gap h)

pub words_none : (gap : List ℕ) → All (λ c. is_ascii_whitespace c ≡ true) gap → words gap ≡ []
words_none gap h = ap words (sym (append-nil gap)) ∙ words_gap gap [] h

-- a word, and white space behind it
word_first : (w : List ℕ) (c : ℕ) (rest : List ℕ) → All (λ c. is_ascii_whitespace c ≡ false) w → 0 < length w → is_ascii_whitespace c ≡ true → words (w ++ c ∷ rest) ≡ w ∷ words rest
word_first w c rest h some e =
    ap (filter (λ w. nat_lt 0 (length w))) (slice_split_at is_ascii_whitespace w c rest h e)
    ∙ (λ k. cond (lt-ltb 0 (length w) some k) (w ∷ words rest) (words rest))

-- a word, and nothing behind it
word_last : (w : List ℕ) → All (λ c. is_ascii_whitespace c ≡ false) w → 0 < length w → words w ≡ w ∷ []
word_last w h some =
    ap (filter (λ w. nat_lt 0 (length w))) (slice_split_none is_ascii_whitespace w h)
    ∙ (λ k. cond (lt-ltb 0 (length w) some k) (w ∷ []) [])

wide_byte : (c : ℕ) → 128 ≤ c → is_ascii_whitespace c ≡ false
wide_byte c far = grind (arith, far, nat_tests)

-- no byte of a text without white space is white space
word_bytes : (w : List ℕ) → NoCharPasses is_ascii_whitespace w → All (λ c. is_ascii_whitespace c ≡ false) w
word_bytes w h = λ k d inside.
    ap is_ascii_whitespace (get_or_default w k d 0 inside)
    ∙ ⊎_elim (λ near. NoCharPasses-byte is_ascii_whitespace w k h inside near) (λ far. wide_byte (get_or w k 0) far) (cases_lt (get_or w k 0) 128)

separated : (x sep rest : List ℕ) → All (λ c. is_ascii_whitespace c ≡ false) x → 0 < length x → IsAsciiSeparator sep rest → words (x ++ (sep ++ rest)) ≡ x ∷ words rest
separated x [] rest h some s =
    let none : rest ≡ [] = nil_from_length rest (s.2 refl) in
    ap (λ l. words (x ++ l)) none ∙ ap words (append-nil x) ∙ word_last x h some ∙ ap (λ l. x ∷ words l) (sym none)
separated x (c ∷ []) rest h some s = word_first x c rest h some (All-head (λ c. is_ascii_whitespace c ≡ true) c [] s.0)
separated x (c ∷ d ∷ sep) rest h some s = absurd (omega (arith, s.1))

-- white space is passed over, and a word comes off the front with the byte behind it
pub word_cut : (old gap x sep rest : List ℕ) → old ≡ gap ++ (x ++ (sep ++ rest)) → All (λ c. is_ascii_whitespace c ≡ true) gap → 0 < length x
    → NoCharPasses is_ascii_whitespace x → IsAsciiSeparator sep rest → words old ≡ x ∷ words rest
word_cut old gap x sep rest e g some h s = ap words e ∙ words_gap gap (x ++ (sep ++ rest)) g ∙ separated x sep rest (word_bytes x h) some s

own : IsNumeralModel (λ ds. all_ascii_digits ds ≡ true) (digits_value 10)
own = numerals_by_value (λ ds. all_ascii_digits ds ≡ true) tells_all_ascii_digits

byte_of : (ds : List ℕ) → IsNumeral 10 ds → digits_value 10 ds < 256 → digits_byte ds ≡ Some (digits_value 10 ds)
byte_of ds n h = λ k.
    cond (lt-ltb 0 (length ds) n.0 k && (own.from ds n.1 k && lt-ltb (digits_value 10 ds) 256 h k)) (Some (digits_value 10 ds)) None

no_byte : (ds : List ℕ) → (IsNumeral 10 ds × (digits_value 10 ds < 256) → ⊥) → digits_byte ds ≡ None
no_byte ds none =
    cond-false (nat_lt 0 (length ds) && (all_ascii_digits ds && nat_lt (digits_value 10 ds) 256)) (Some (digits_value 10 ds)) None
    (false_from_ne_true (nat_lt 0 (length ds) && (all_ascii_digits ds && nat_lt (digits_value 10 ds) 256))
    (λ e.
    let a = and_parts (nat_lt 0 (length ds)) (all_ascii_digits ds && nat_lt (digits_value 10 ds) 256) e in
    let b = and_parts (all_ascii_digits ds) (nat_lt (digits_value 10 ds) 256) a.1 in
    none ((ltb-true 0 (length ds) a.0, own.to ds b.0), ltb-true (digits_value 10 ds) 256 b.1)))

-- what parsing a word says of its value
pub parsed : (w : List ℕ) (v : ℕ) → (IsNumeral 10 (without_leading_plus w) × (digits_value 10 (without_leading_plus w) < 2 ^ 8)) × (v ≡ digits_value 10 (without_leading_plus w)) → word_value w ≡ Some v
parsed w v h = byte_of (without_leading_plus w) h.0.0 h.0.1 ∙ ap Some (sym h.1)

pub not_parsed : {E : Type 0} (w : List ℕ) (e : E) → ParsesUnsigned 8 10 w (Err e) → word_value w ≡ None
not_parsed w e h = no_byte (without_leading_plus w) h

pub are_more : (a b : List (List ℕ)) (va vb : List ℕ) → AreValues a va → AreValues b vb → AreValues (a ++ b) (va ++ vb)
are_more a b va vb h k = map-append word_value a b ∙ (λ i. h i ++ k i) ∙ sym (map-append Some va vb)

-- a word among values is a value
value_inside : (done : List (List ℕ)) (w : List ℕ) (more : List (List ℕ)) (values : List ℕ) → AreValues (done ++ w ∷ more) values → (v : ℕ) × (word_value w ≡ Some v)
value_inside [] w more [] h = absurd (omega (arith, ap length h))
value_inside [] w more (v ∷ values) h = let first : word_value w ≡ Some v = cc in (v, first)
value_inside (x ∷ done) w more [] h = absurd (omega (arith, ap length h))
value_inside (x ∷ done) w more (v ∷ values) h = let rest : AreValues (done ++ w ∷ more) values = cc in value_inside done w more values rest

pub none_taken : (w values : List ℕ) → word_value w ≡ None → AreValues (w ∷ []) values → ⊥
none_taken w values e h = let v = value_inside [] w [] values h in let both : None ≡ Some v.0 = sym e ∙ v.1 in absurd cc

-- a word of a line is refused
pub word_refused : (line done : List (List ℕ)) (w : List ℕ) (more : List (List ℕ)) (number : ℕ) (e : Trouble) → line ≡ done ++ w ∷ more
    → WordsRefused (w ∷ []) number e → WordsRefused line number e
word_refused line done w more number (Value n) q h = (
  h.0,
  λ values k.
      let v = value_inside done w more values (subst (λ l. AreValues l values) q k) in
      h.1 (v.0 ∷ []) (ap (λ o. o ∷ []) v.1),
)
word_refused line done w more number (Chain fault) q h = h
word_refused line done w more number (Bits text stray) q h = absurd h
word_refused line done w more number (Unfinished bits long) q h = absurd h
word_refused line done w more number Endless q h = absurd h
word_refused line done w more number (Outside error) q h = absurd h

-- a line of a text is refused
pub line_refused : (s : Scheme) (text : List ℕ) (done : List (List ℕ)) (line : List ℕ) (after : List (List ℕ)) (values : List ℕ) (number : ℕ) (e : Trouble)
    → lines text ≡ done ++ line ∷ after → AreValues (all_words done) values → number ≡ min (length done + 1) (2 ^ 64 - 1)
    → WordsRefused (line_words line) number e → TableRead s text (Err e)
line_refused s text done line after values number (Value n) cut fine e h = record {
  before = done;
  line = line;
  after = after;
  cut = cut;
  values = values;
  fine = fine;
  stray = h.1;
  numbered = h.0 ∙ e;
}
line_refused s text done line after values number (Chain fault) cut fine e h = inl h
line_refused s text done line after values number (Bits t stray) cut fine e h = absurd h
line_refused s text done line after values number (Unfinished bits long) cut fine e h = absurd h
line_refused s text done line after values number Endless cut fine e h = absurd h
line_refused s text done line after values number (Outside error) cut fine e h = absurd h

-- the values are asked whether they make a table
pub values_refused : (fault : ChainFault) (fits : Bool) → chain_number fault ≡ making_answer fits → (fits ≡ false) × (chain_number fault ≡ 10)
values_refused fault true h = absurd (positive fault h)
values_refused fault false h = (refl, h)

-- what is known of the next line that is read
pub known_line : (old new : Option (List ℕ)) (x ys : List ℕ) → IfSome old (λ xs. (0 < length xs) × (x ≡ first_line xs)) × DropsThrough old new 10 → old ≡ Some ys
    → (lines ys ≡ x ∷ lines (drop_through 10 ys)) × (new ≡ Some (drop_through 10 ys))
known_line None new x ys h e = absurd (let f : None ≡ Some ys = e in cc)
known_line (Some zs) new x ys h e =
    let f : Some zs ≡ Some ys = e in
    let same : zs ≡ ys = cc in
    let some : 0 < length ys = subst (λ l. 0 < length l) same h.0.0 in (
      lines_next ys some ∙ ap (λ l. l ∷ lines (drop_through 10 ys)) (sym (h.0.1 ∙ ap first_line same)),
      h.1 ∙ ap (λ l. Some (drop_through 10 l)) same,
    )

pub line_counted : (number n : ℕ) → number ≡ min n (2 ^ 64 - 1) → min (number + 1) (2 ^ 64 - 1) ≡ min (n + 1) (2 ^ 64 - 1)
line_counted number n e = omega (arith, e)

pub words_of_more : (done : List (List ℕ)) (line : List ℕ) → all_words done ++ line_words line ≡ all_words (done ++ line ∷ [])
words_of_more done line = flat_map_more line_words [] done line

pub values_taken : (fits : Bool) → 0 ≡ making_answer fits → fits ≡ true
values_taken true h = refl
values_taken false h = absurd (omega (arith, h))
