-- The first byte of its first word tells an entry's kind.
-- Assumes nothing.
use Rattle.std.proofs.Common.{◌≡◌, ℕ, ◌^◌, ◌<◌, ◌≢◌, List, [], ◌∷◌, get_or, drop, ℤ, codes, sym, ap, arith}
use Rattle.std.specs.Fmt.{decimal, signed_decimal}
use Rattle.entries.specs.Entries.{InRange, entry_words}
use Rattle.entries.specs.declared.entry.Entry.{Entry}
use Rattle.entries.specs.declared.entry.Entry.TheVariants.{Hear, Note, Blank, Look}
use Rattle.entries.proofs.Numbers.{decimal_begins}

-- the first byte of the first word
abbrev first_byte : List (List ℕ) → ℕ
first_byte ws = get_or (get_or ws 0 []) 0 0

digit_first : (p : ℕ) (ws : List (List ℕ)) → p < 2 ^ 32 → (n : ℕ) → first_byte (decimal p ∷ ws) ≡ n → n < 58
digit_first p ws small n e = omega (arith, (decimal_begins p (omega arith)).high)

pub first_is : (x y : List ℕ) (xs ys : List (List ℕ)) → x ∷ xs ≡ y ∷ ys → x ≡ y
first_is x y xs ys e = ap (λ l. get_or l 0 []) e

pub rest_is : (x y : List ℕ) (xs ys : List (List ℕ)) → x ∷ xs ≡ y ∷ ys → xs ≡ ys
rest_is x y xs ys e = ap (drop 1) e

pub no_note : (ws : List (List ℕ)) → ((l : ℕ) (v : ℤ) → InRange (Note l v) → ws ≢ decimal l ∷ signed_decimal v ∷ []) → (e : Entry) → InRange e → codes "note" ∷ ws ≢ entry_words e
no_note ws h (Hear p i w) r e = absurd (let n = digit_first p (decimal i ∷ decimal w ∷ []) r.0 110 (sym (ap first_byte e)) in omega arith)
no_note ws h (Note l v) r e = h l v r (ap (drop 1) e)
no_note ws h (Blank p) r e = absurd (let f : 110 ≡ 98 = ap first_byte e in omega arith)
no_note ws h Look r e = absurd (let f : 110 ≡ 108 = ap first_byte e in omega arith)

pub no_blank : (ws : List (List ℕ)) → ((p : ℕ) → p < 2 ^ 32 → ws ≢ decimal p ∷ []) → (e : Entry) → InRange e → codes "blank" ∷ ws ≢ entry_words e
no_blank ws h (Hear p i w) r e = absurd (let n = digit_first p (decimal i ∷ decimal w ∷ []) r.0 98 (sym (ap first_byte e)) in omega arith)
no_blank ws h (Note l v) r e = absurd (let f : 98 ≡ 110 = ap first_byte e in omega arith)
no_blank ws h (Blank p) r e = h p r (ap (drop 1) e)
no_blank ws h Look r e = absurd (let f : 98 ≡ 108 = ap first_byte e in omega arith)

pub no_look : (ws : List (List ℕ)) → ws ≢ [] → (e : Entry) → InRange e → codes "look" ∷ ws ≢ entry_words e
no_look ws h (Hear p i w) r e = absurd (let n = digit_first p (decimal i ∷ decimal w ∷ []) r.0 108 (sym (ap first_byte e)) in omega arith)
no_look ws h (Note l v) r e = absurd (let f : 108 ≡ 110 = ap first_byte e in omega arith)
no_look ws h (Blank p) r e = absurd (let f : 108 ≡ 98 = ap first_byte e in omega arith)
no_look ws h Look r e = h (ap (drop 1) e)

pub no_other : (word : List ℕ) (ws : List (List ℕ)) → word ≢ codes "note" → word ≢ codes "blank" → word ≢ codes "look" →
    ((p i w : ℕ) → InRange (Hear p i w) → word ∷ ws ≢ entry_words (Hear p i w)) → (e : Entry) → InRange e → word ∷ ws ≢ entry_words e
no_other word ws n b l h (Hear p i w) r e = h p i w r e
no_other word ws n b l h (Note k v) r e = n (ap (λ x. get_or x 0 []) e)
no_other word ws n b l h (Blank p) r e = b (ap (λ x. get_or x 0 []) e)
no_other word ws n b l h Look r e = l (ap (λ x. get_or x 0 []) e)

-- no entry's line is empty or a comment
pub no_remark : (e : Entry) → InRange e → (word : List ℕ) (ws : List (List ℕ)) → word ∷ ws ≡ entry_words e → get_or word 0 0 ≢ 35
no_remark (Hear p i w) r word ws e z = absurd (let n = (decimal_begins p (omega (arith, r.0))).low in let f : first_byte (word ∷ ws) ≡ first_byte (entry_words (Hear p i w)) = ap first_byte e in omega arith)
no_remark (Note k v) r word ws e z = absurd (let f : get_or word 0 0 ≡ 110 = ap first_byte e in omega arith)
no_remark (Blank p) r word ws e z = absurd (let f : get_or word 0 0 ≡ 98 = ap first_byte e in omega arith)
no_remark Look r word ws e z = absurd (let f : get_or word 0 0 ≡ 108 = ap first_byte e in omega arith)
