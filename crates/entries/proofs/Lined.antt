-- A line for each entry: its words, a blank behind each.
-- Assumes nothing.
use Rattle.std.proofs.Common.{◌≡◌, ℕ, suc, zero, ◌^◌, ◌<◌, ◌≤◌, false, cond, List, [], ◌∷◌, ◌++◌, length, get_or, codes, sym, refl, ap, ◌∙◌, append_assoc, ℤ, pos, negsuc, ◌≤ℤ◌, arith, length-append}
use Rattle.std.proofs.lemmas.Bool.Decides.{nat_tests}
use Rattle.std.proofs.lemmas.Int.{ints}
use Rattle.std.proofs.lemmas.List.{append-nil}
use Rattle.std.proofs.lemmas.Fmt.{decimal_is_IsNumeral, length-decimal-le}
use Rattle.std.proofs.lemmas.Str.Parse.{digit_at}
use Rattle.std.specs.Fmt.{decimal, signed_decimal}
use Rattle.entries.specs.Laws.{EachHasALine}
use Rattle.entries.specs.Words.{white, words_from, words}
use Rattle.entries.specs.declared.entry.Entry.TheVariants.{Hear, Note, Blank, Look}

-- some bytes, of which none is white space
record Plain (word : List ℕ) : Type 0 where
  some : 0 < length word
  plain : (k : ℕ) → k < length word → white (get_or word k 0) ≡ false

-- a word goes on to the blank behind it
goes_on : (c : ℕ) (begun word rest : List ℕ) → ((k : ℕ) → k < length word → white (get_or word k 0) ≡ false) →
    words_from (c ∷ begun) (word ++ 32 ∷ rest) ≡ ((c ∷ begun) ++ word) ∷ words rest
goes_on c begun [] rest h = ap (λ l. l ∷ words rest) (sym (append-nil (c ∷ begun)))
goes_on c begun (b ∷ word) rest h =
    let first : white b ≡ false = h 0 (omega arith) in
    ap (λ t. cond t ((c ∷ begun) ∷ words (word ++ 32 ∷ rest)) (words_from ((c ∷ begun) ++ (b ∷ [])) (word ++ 32 ∷ rest))) first
    ∙ goes_on c (begun ++ (b ∷ [])) word rest (λ k lt. h (suc k) (omega arith))
    ∙ ap (λ l. l ∷ words rest) (append_assoc (c ∷ begun) (b ∷ []) word)

before : (word rest : List ℕ) → Plain word → words (word ++ 32 ∷ rest) ≡ word ∷ words rest
before [] rest p = absurd (omega (arith, p.some))
before (c ∷ word) rest p =
    let first : white c ≡ false = p.plain 0 (omega arith) in
    ap (λ t. cond t (words (word ++ 32 ∷ rest)) (words_from (c ∷ []) (word ++ 32 ∷ rest))) first
    ∙ goes_on c [] word rest (λ k lt. p.plain (suc k) (omega arith))

digit_plain : (b : ℕ) → 48 ≤ b → b ≤ 57 → white b ≡ false
digit_plain b low high = grind (arith, nat_tests)

number_plain : (n : ℕ) → n < 2 ^ 32 → Plain (decimal n)
number_plain n small =
    let numeral = decimal_is_IsNumeral n (omega arith) in
    record {
      some = numeral.0.0;
      plain = λ k lt. let d = digit_at (decimal n) k numeral.0.1 lt in digit_plain (get_or (decimal n) k 0) d.0 d.1;
    }

number_short : (n : ℕ) → n < 2 ^ 32 → length (decimal n) ≤ 10
number_short n small = length-decimal-le 10 n (omega arith) (omega arith) (omega arith)

minus_plain : (word : List ℕ) → Plain word → (k : ℕ) → k < length (45 ∷ word) → white (get_or (45 ∷ word) k 0) ≡ false
minus_plain word p zero lt = refl
minus_plain word p (suc k) lt = p.plain k (omega arith)

value_plain : (z : ℤ) → negsuc 32767 ≤ℤ z → z ≤ℤ pos 32767 → Plain (signed_decimal z) × (length (signed_decimal z) ≤ 11)
value_plain (pos n) low high =
    let small : n < 2 ^ 32 = omega (arith, ints, high) in
    let short = number_short n small in
    (number_plain n small, omega arith)
value_plain (negsuc m) low high =
    let small : suc m < 2 ^ 32 = omega (arith, ints, low) in
    let short = number_short (suc m) small in
    (record { some = omega arith; plain = minus_plain (decimal (suc m)) (number_plain (suc m) small) }, omega arith)

pub each_has_a_line : EachHasALine
each_has_a_line (Hear p i w) r =
    let b : i < 2 ^ 32 = omega (arith, r.1) in
    let c : w < 2 ^ 32 = omega (arith, r.2) in
    let third = before (decimal w) [] (number_plain w c) in
    let second = before (decimal i) (decimal w ++ 32 ∷ []) (number_plain i b) ∙ ap (λ l. decimal i ∷ l) third in (
      decimal p ++ 32 ∷ (decimal i ++ 32 ∷ (decimal w ++ 32 ∷ [])),
      record {
        in_range = r;
        written = before (decimal p) (decimal i ++ 32 ∷ (decimal w ++ 32 ∷ [])) (number_plain p r.0) ∙ ap (λ l. decimal p ∷ l) second;
        short = omega (arith, number_short p r.0, number_short i b, number_short w c, length-append {A = ℕ});
      },
    )
each_has_a_line (Note l v) r =
    let value = value_plain v r.1 r.2 in
    let second = before (decimal l) (signed_decimal v ++ 32 ∷ []) (number_plain l r.0) ∙ ap (λ x. decimal l ∷ x) (before (signed_decimal v) [] value.0) in (
      codes "note" ++ 32 ∷ (decimal l ++ 32 ∷ (signed_decimal v ++ 32 ∷ [])),
      record {
        in_range = r;
        written = ap (λ x. codes "note" ∷ x) second;
        short = omega (arith, number_short l r.0, value.1, length-append {A = ℕ});
      },
    )
each_has_a_line (Blank p) r = (
  codes "blank" ++ 32 ∷ (decimal p ++ 32 ∷ []),
  record {
    in_range = r;
    written = ap (λ x. codes "blank" ∷ x) (before (decimal p) [] (number_plain p r));
    short = omega (arith, number_short p r, length-append {A = ℕ});
  },
)
each_has_a_line Look r = (codes "look", record { in_range = r; written = refl; short = omega arith })
