-- A line is that of one entry.
-- Assumes nothing.
use Rattle.std.proofs.Common.{◌≡◌, ℕ, suc, ◌^◌, ◌<◌, List, [], ◌∷◌, length, get_or, drop, ℤ, pos, negsuc, ◌≤ℤ◌, sym, refl, ap, ◌∙◌, arith}
use Rattle.std.specs.Fmt.{decimal, signed_decimal}
use Rattle.std.proofs.lemmas.Fmt.{decimal_injective}
use Rattle.std.proofs.lemmas.Int.{ints}
use Rattle.entries.specs.Entries.{InRange, entry_words}
use Rattle.entries.specs.Laws.{OneEntry, NoIdleEntry}
use Rattle.entries.specs.Readings.{Remarks}
use Rattle.entries.specs.declared.entry.Entry.{Entry}
use Rattle.entries.specs.declared.entry.Entry.TheVariants.{Hear, Note, Blank, Look}
use Rattle.entries.proofs.Numbers.{decimal_begins}
use Rattle.entries.proofs.Telling.{no_remark}

-- the word at a place of two equal lists
word_at : (n : ℕ) (xs ys : List (List ℕ)) → xs ≡ ys → get_or xs n [] ≡ get_or ys n []
word_at n xs ys e = ap (λ l. get_or l n []) e

-- the first byte of the first word
first_byte : (xs ys : List (List ℕ)) → xs ≡ ys → get_or (get_or xs 0 []) 0 0 ≡ get_or (get_or ys 0 []) 0 0
first_byte xs ys e = ap (λ l. get_or (get_or l 0 []) 0 0) e

number_same : (m n : ℕ) → m < 2 ^ 32 → n < 2 ^ 32 → decimal m ≡ decimal n → m ≡ n
number_same m n a b e = decimal_injective m n (omega arith) (omega arith) e

value_same : (y z : ℤ) → negsuc 32767 ≤ℤ y → y ≤ℤ pos 32767 → negsuc 32767 ≤ℤ z → z ≤ℤ pos 32767 → signed_decimal y ≡ signed_decimal z → y ≡ z
value_same (pos m) (pos n) a b c d e = ap pos (decimal_injective m n (omega (arith, ints, b)) (omega (arith, ints, d)) e)
value_same (pos m) (negsuc n) a b c d e =
    let first : get_or (decimal m) 0 0 ≡ 45 = ap (λ l. get_or l 0 0) e in
    absurd (omega (arith, (decimal_begins m (omega (arith, ints, b))).low))
value_same (negsuc m) (pos n) a b c d e =
    let first : get_or (decimal n) 0 0 ≡ 45 = sym (ap (λ l. get_or l 0 0) e) in
    absurd (omega (arith, (decimal_begins n (omega (arith, ints, d))).low))
value_same (negsuc m) (negsuc n) a b c d e =
    let f : decimal (suc m) ≡ decimal (suc n) = ap (drop 1) e in
    ap negsuc (omega (arith, decimal_injective (suc m) (suc n) (omega (arith, ints, a)) (omega (arith, ints, c)) f))

-- a number's first byte is a digit
digit : (p n : ℕ) → p < 2 ^ 32 → 58 < n → get_or (decimal p) 0 0 ≡ n → ⊥
digit p n small high e = omega (arith, (decimal_begins p (omega arith)).high)

same_words : (d e : Entry) → InRange d → InRange e → entry_words d ≡ entry_words e → d ≡ e
same_words (Hear p i w) (Hear q j x) r t e =
    let a = number_same p q r.0 t.0 (word_at 0 _ _ e) in
    let b = number_same i j (omega (arith, r.1)) (omega (arith, t.1)) (word_at 1 _ _ e) in
    let c = number_same w x (omega (arith, r.2)) (omega (arith, t.2)) (word_at 2 _ _ e) in
    λ k. Hear (a k) (b k) (c k)
same_words (Hear p i w) (Note l v) r t e = absurd (digit p 110 r.0 (omega arith) (first_byte _ _ e))
same_words (Hear p i w) (Blank q) r t e = absurd (digit p 98 r.0 (omega arith) (first_byte _ _ e))
same_words (Hear p i w) Look r t e = absurd (digit p 108 r.0 (omega arith) (first_byte _ _ e))
same_words (Note l v) (Hear q j x) r t e = absurd (digit q 110 t.0 (omega arith) (sym (first_byte _ _ e)))
same_words (Note l v) (Note m y) r t e =
    let a = number_same l m r.0 t.0 (word_at 1 _ _ e) in
    let b = value_same v y r.1 r.2 t.1 t.2 (word_at 2 _ _ e) in
    λ k. Note (a k) (b k)
same_words (Note l v) (Blank q) r t e = absurd (let f : 110 ≡ 98 = first_byte _ _ e in omega arith)
same_words (Note l v) Look r t e = absurd (let f : 110 ≡ 108 = first_byte _ _ e in omega arith)
same_words (Blank p) (Hear q j x) r t e = absurd (digit q 98 t.0 (omega arith) (sym (first_byte _ _ e)))
same_words (Blank p) (Note m y) r t e = absurd (let f : 98 ≡ 110 = first_byte _ _ e in omega arith)
same_words (Blank p) (Blank q) r t e = ap Blank (number_same p q r t (word_at 1 _ _ e))
same_words (Blank p) Look r t e = absurd (let f : 98 ≡ 108 = first_byte _ _ e in omega arith)
same_words Look (Hear q j x) r t e = absurd (digit q 108 t.0 (omega arith) (sym (first_byte _ _ e)))
same_words Look (Note m y) r t e = absurd (let f : 108 ≡ 110 = first_byte _ _ e in omega arith)
same_words Look (Blank q) r t e = absurd (let f : 108 ≡ 98 = first_byte _ _ e in omega arith)
same_words Look Look r t e = refl

pub one_entry : OneEntry
one_entry line d e v w = same_words d e v.in_range w.in_range (sym v.written ∙ w.written)

not_a_remark : (e : Entry) → InRange e → (ws : List (List ℕ)) → ws ≡ entry_words e → Remarks ws → ⊥
not_a_remark (Hear p i w) r [] is h = omega (arith, ap length is)
not_a_remark (Note l v) r [] is h = omega (arith, ap length is)
not_a_remark (Blank p) r [] is h = omega (arith, ap length is)
not_a_remark Look r [] is h = omega (arith, ap length is)
not_a_remark e r (word ∷ ws) is h = no_remark e r word ws is h

pub no_idle_entry : NoIdleEntry
no_idle_entry line e w i = not_a_remark e w.in_range _ w.written i.remarks
