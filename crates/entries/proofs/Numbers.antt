-- Words that write a number.
-- Assumes nothing.
use Rattle.std.proofs.Common.{◌≡◌, ℕ, suc, ◌-◌, ◌^◌, ◌<◌, ◌≤◌, ◌≢◌, true, List, [], ◌∷◌, length, get_or, take, Ok, Err, Result, sym, ap, ◌∙◌, subst, ⊎_elim, ℤ, pos, negsuc, ◌≤ℤ◌, drop, Some, None, Option, MatchOption, arith}
use Rattle.std.proofs.lemmas.Bool.{false≢true, cases_lt}
use Rattle.std.proofs.lemmas.Bool.Decides.{nat_tests}
use Rattle.std.proofs.lemmas.Int.{ints}
use Rattle.std.proofs.lemmas.List.{take_rest}
use Rattle.std.proofs.lemmas.Fmt.{decimal_is_IsNumeral, decimal-digits_value, decimal_digit, first_decimal, decimal_injective}
use Rattle.std.proofs.lemmas.Str.Parse.{IsNumeralModel, numerals_by_value, tells_digits, parse_plain, digit_at}
use Rattle.std.specs.Fmt.{decimal, signed_decimal}
use Rattle.std.specs.Result.{MatchResult, result_ok}
use Rattle.std.specs.Str.Parse.{AllDigits, digits_value, ParsesUnsigned}
use Rattle.entries.specs.Words.{canonical}

own : IsNumeralModel (AllDigits 10) (digits_value 10)
own = numerals_by_value (AllDigits 10) tells_digits

-- what a word that can begin a number begins with
pub record Begins (word : List ℕ) : Type 0 where
  pub some : 0 < length word
  pub low : 48 ≤ get_or word 0 0
  pub high : get_or word 0 0 ≤ 57
  pub zero_alone : get_or word 0 0 ≡ 48 → length word ≡ 1

pub begins : (word : List ℕ) → canonical word ≡ true → Begins word
begins [] e = absurd (false≢true e)
begins (c ∷ more) e = record { some = omega arith; low = grind (arith, nat_tests); high = grind (arith, nat_tests); zero_alone = grind (arith, nat_tests) }

pub begins_number : (word : List ℕ) → Begins word → canonical word ≡ true
begins_number [] h = absurd (omega (arith, h.some))
begins_number (c ∷ more) h = let a = h.low in let b = h.high in let z = h.zero_alone in grind (arith, nat_tests)

-- a number in decimal digits is such a word
pub decimal_begins : (n : ℕ) → n < 2 ^ 64 → Begins (decimal n)
decimal_begins n small =
    let numeral = decimal_is_IsNumeral n small in
    let digit = digit_at (decimal n) 0 numeral.0.1 numeral.0.0 in
    record {
      some = numeral.0.0;
      low = digit.0;
      high = digit.1;
      zero_alone = λ e. ⊎_elim (λ lt. absurd (omega (arith, first_decimal n lt small, e))) (λ none. ap length (decimal_digit n (omega arith))) (cases_lt 0 n);
    }

-- what reading a word as a number gives
pub number_read : {E : Type 0} (word : List ℕ) (r : Result ℕ E) → Begins word → ParsesUnsigned 32 10 word r → MatchResult r (λ n. (n < 2 ^ 32) × (decimal n ≡ word)) (λ _. (n : ℕ) → n < 2 ^ 32 → decimal n ≢ word)
number_read {E} word (Ok n) b h =
    let first : get_or word 0 0 ≢ 43 = λ e. absurd (omega (arith, b.low)) in
    let p = parse_plain own {E = E} 32 word (Ok n) h first in
    (omega (arith, p.1, p.0.2), ap decimal p.1 ∙ decimal-digits_value own word p.0.0 p.0.1 b.zero_alone (omega (arith, p.0.2)))
number_read {E} word (Err e) b h =
    let first : get_or word 0 0 ≢ 43 = λ e. absurd (omega (arith, b.low)) in
    λ n small same.
    let numeral = decimal_is_IsNumeral n (omega arith) in
    parse_plain own {E = E} 32 word (Err e) h first
    (subst (AllDigits 10) same numeral.0.1, subst (λ l. 0 < length l) same numeral.0.0, omega (arith, ap (digits_value 10) same, numeral.1))

-- a word that begins with a minus sign
pub negative_read : (word size : List ℕ) (r : Option ℤ) → word ≡ 45 ∷ size →
    MatchOption r ((n : ℕ) → 1 ≤ n → n ≤ 32768 → decimal n ≢ size) (λ z. (negsuc 32767 ≤ℤ z) × (z ≤ℤ pos 32767) × (signed_decimal z ≡ 45 ∷ size)) →
    MatchOption r ((z : ℤ) → negsuc 32767 ≤ℤ z → z ≤ℤ pos 32767 → signed_decimal z ≢ word) (λ z. (negsuc 32767 ≤ℤ z) × (z ≤ℤ pos 32767) × (signed_decimal z ≡ word))
negative_read word size (Some z) is h = (h.0, h.1, h.2 ∙ sym is)
negative_read word size None is h = none
  where
    none : (z : ℤ) → negsuc 32767 ≤ℤ z → z ≤ℤ pos 32767 → signed_decimal z ≢ word
    none (pos n) low high e =
        let up : n ≤ 32767 = omega (arith, ints, high) in
        let first : get_or (decimal n) 0 0 ≡ 45 = ap (λ l. get_or l 0 0) (e ∙ is) in
        omega (arith, (decimal_begins n (omega arith)).low)
    none (negsuc m) low high e =
        let down : m ≤ 32767 = omega (arith, ints, low) in
        h (suc m) (omega arith) (omega arith) (ap (drop 1) (e ∙ is))

-- the number that a word writes is no other
pub one_number : (m n : ℕ) (word : List ℕ) → m < 2 ^ 32 → n < 2 ^ 32 → decimal m ≡ word → decimal n ≡ word → m ≡ n
one_number m n word small low e f = decimal_injective m n (omega arith) (omega arith) (e ∙ sym f)

-- a word read as a number, where reading is an option
pub number_there : {E : Type 0} (word : List ℕ) (r : Result ℕ E) (o : Option ℕ) → o ≡ result_ok r → MatchResult r (λ n. (n < 2 ^ 32) × (decimal n ≡ word)) (λ _. (n : ℕ) → n < 2 ^ 32 → decimal n ≢ word) →
    MatchOption o ((n : ℕ) → n < 2 ^ 32 → decimal n ≢ word) (λ n. (n < 2 ^ 32) × (decimal n ≡ word))
number_there word (Ok n) o is h = subst (λ p. MatchOption p ((n : ℕ) → n < 2 ^ 32 → decimal n ≢ word) (λ n. (n < 2 ^ 32) × (decimal n ≡ word))) (sym is) h
number_there word (Err e) o is h = subst (λ p. MatchOption p ((n : ℕ) → n < 2 ^ 32 → decimal n ≢ word) (λ n. (n < 2 ^ 32) × (decimal n ≡ word))) (sym is) h

-- a word whose first byte is a minus sign, as its pattern takes it apart
pub minus_first : (word : List ℕ) → 1 ≤ length word → get_or word 0 0 ≡ 45 → word ≡ 45 ∷ take (length word - 1) (drop 1 word)
minus_first [] some e = absurd (omega arith)
minus_first (c ∷ word) some e = (λ i. e i ∷ word) ∙ ap (λ l. 45 ∷ l) (sym (take_rest (c ∷ word) 1))
