-- A text of bits with one byte more.
-- Assumes nothing.
use Rattle.std.proofs.Common.{◌≡◌, ℕ, zero, suc, ◌+◌, ◌-◌, ◌^◌, ◌<◌, min, Bool, true, false, cond, List, [], ◌∷◌, ◌++◌, map, length, sym, refl, ap, ◌∙◌, append_assoc, append-nil, arith}
use Rattle.std.specs.Prelude.{◌==◌, ◌||◌}
use Rattle.std.proofs.lemmas.Bool.Decides.{nat_tests}
use Rattle.std.proofs.lemmas.Bool.{ne_eqb, cond-false, true≢false}
use Rattle.std.proofs.ByRecursion.{All-push}
use Rattle.std.proofs.lemmas.List.{map-append}
use Rattle.bits_text.specs.Texts.{ends_inside, comment_after, mark, marks, Bits, digit, digits, Says}
use Rattle.bits_text.specs.Laws.{ComesBack}
use Rattle.bits_text.specs.Readings.{At, line_after}
use Rattle.bits_text.specs.declared.reader.BitsReader.{BitsReader}

pub ends_push : (inside : Bool) (text : List ℕ) (c : ℕ) → ends_inside inside (text ++ c ∷ []) ≡ comment_after (ends_inside inside text) c
ends_push inside [] c = refl
ends_push inside (x ∷ text) c = ends_push (comment_after inside x) text c

pub marks_push : (inside : Bool) (text : List ℕ) (c : ℕ) → marks inside (text ++ c ∷ []) ≡ marks inside text ++ mark (ends_inside inside text) c
marks_push inside [] c = append-nil (mark inside c)
marks_push inside (x ∷ text) c =
    ap (λ l. mark inside x ++ l) (marks_push (comment_after inside x) text c)
    ∙ sym (append_assoc (mark inside x) (marks (comment_after inside x) text) (mark (ends_inside (comment_after inside x) text) c))

-- a bit more
says_more : (text bits : List ℕ) (c b : ℕ) → Says text bits → b < 2 → mark (ends_inside false text) c ≡ (48 + b) ∷ [] → Says (text ++ c ∷ []) (bits ++ b ∷ [])
says_more text bits c b h small e = record {
  binary = All-push (λ n. n < 2) bits b h.binary small;
  written = map-append (λ n. 48 + n) bits (b ∷ []) ∙ ap (λ l. l ++ (48 + b) ∷ []) h.written
      ∙ ap (λ l. marks false text ++ l) (sym e) ∙ sym (marks_push false text c);
}

-- no bit more
pub says_same : (text bits : List ℕ) (c : ℕ) → Says text bits → mark (ends_inside false text) c ≡ [] → Says (text ++ c ∷ []) bits
says_same text bits c h e = record {
  binary = h.binary;
  written = h.written ∙ sym (append-nil (marks false text)) ∙ ap (λ l. marks false text ++ l) (sym e) ∙ sym (marks_push false text c);
}

-- the last of some digits is one
digits_last : (bits front : List ℕ) (c : ℕ) → Bits bits → digits bits ≡ front ++ c ∷ [] → (c == 48 || c == 49) ≡ true
digits_last [] [] c h e = absurd (omega (arith, ap length e))
digits_last [] (x ∷ front) c h e = absurd (omega (arith, ap length e))
digits_last (zero ∷ bits) [] c h e = let first : 48 ≡ c = cc in ap (λ n. n == 48 || n == 49) (sym first)
digits_last (suc zero ∷ bits) [] c h e = let first : 49 ≡ c = cc in ap (λ n. n == 48 || n == 49) (sym first)
digits_last (suc (suc b) ∷ bits) [] c h e = absurd (omega (arith, h.0))
digits_last (b ∷ bits) (x ∷ front) c h e = let rest : digits bits ≡ front ++ c ∷ [] = cc in digits_last bits front c h.1 rest

-- a byte that is no digit
pub says_none : (text : List ℕ) (c : ℕ) → mark (ends_inside false text) c ≡ c ∷ [] → (c == 48 || c == 49) ≡ false → (more : List ℕ) → Says (text ++ c ∷ []) more → ⊥
says_none text c e none more h =
    true≢false (sym (digits_last more (marks false text) c h.binary (h.written ∙ marks_push false text c ∙ ap (λ l. marks false text ++ l) e)) ∙ none)

-- a digit is that of the bit by which it is above 48
digit_bit : (c : ℕ) → (c == 48 || c == 49) ≡ true → (c ≡ 48 + (c - 48)) × (c - 48 < 2)
digit_bit c e = grind (arith, e, nat_tests)

pub says_digit : (text bits : List ℕ) (c : ℕ) → Says text bits → mark (ends_inside false text) c ≡ c ∷ [] → (c == 48 || c == 49) ≡ true → Says (text ++ c ∷ []) (bits ++ (c - 48) ∷ [])
says_digit text bits c h e d =
    let b = digit_bit c d in
    says_more text bits c (c - 48) h b.1 (e ∙ ap (λ n. n ∷ []) b.0)

-- the line of a block is read as that block
pub digits_written : (block : List ℕ) → Bits block → map digit block ≡ digits block
digits_written [] h = refl
digits_written (b ∷ block) h = let same : cond (b == 0) 48 49 ≡ 48 + b = grind (arith, h.0, nat_tests) in ap (λ d. d ∷ map digit block) same ∙ ap (λ l. (48 + b) ∷ l) (digits_written block h.1)

-- a digit is a mark, and begins no comment
digit_mark : (b : ℕ) → (mark false (digit b) ≡ digit b ∷ []) × (comment_after false (digit b) ≡ false)
digit_mark b =
    elim (b == 0) as (λ v. (mark false (cond v 48 49) ≡ cond v 48 49 ∷ []) × (comment_after false (cond v 48 49) ≡ false)) [
      | true ↦ (refl, refl)
      | false ↦ (refl, refl)
    ]

pub digit_marks : (block : List ℕ) → marks false (map digit block ++ 10 ∷ []) ≡ map digit block
digit_marks [] = refl
digit_marks (b ∷ block) =
    let m = digit_mark b in
    let e = m.0 in
    let f = m.1 in
    (λ i. e i ++ marks (f i) (map digit block ++ 10 ∷ [])) ∙ ap (λ l. digit b ∷ l) (digit_marks block)

pub digits_same : (a b : List ℕ) → digits a ≡ digits b → a ≡ b
digits_same [] [] e = refl
digits_same [] (y ∷ b) e = absurd (omega (arith, ap length e))
digits_same (x ∷ a) [] e = absurd (omega (arith, ap length e))
digits_same (x ∷ a) (y ∷ b) e =
    let first : 48 + x ≡ 48 + y = cc in
    let rest : digits a ≡ digits b = cc in
    let same : x ≡ y = omega arith in
    let tail = digits_same a b rest in
    cc

pub comes_back : ComesBack
comes_back block h =
    let e = digit_marks block ∙ digits_written block h in (
      record { binary = h; written = sym e },
      λ other g. digits_same other block (g.written ∙ e),
    )

-- the reader goes past a line feed
pub at_line_feed : (r : BitsReader) (text : List ℕ) (c line : ℕ) → c ≡ 10 → At (record { in_comment = false; line = line }) (text ++ c ∷ [])
at_line_feed r text c line e = record { comment = sym (ends_push false text c ∙ ap (comment_after (ends_inside false text)) e) }

-- the reader goes past another byte
pub at_other : (r : BitsReader) (text : List ℕ) (c : ℕ) (inside : Bool) → At r text → (c ≡ 10 → ⊥) → inside ≡ (r.in_comment || c == 35) → At (record { in_comment = inside; line = r.line }) (text ++ c ∷ [])
at_other r text c inside h ne e = record {
  comment = e ∙ ap (λ b. b || c == 35) h.comment
      ∙ sym (ends_push false text c ∙ cond-false (c == 10) false (ends_inside false text || c == 35) (ne_eqb c 10 ne));
}

pub line_feed : (c line : ℕ) → c ≡ 10 → line_after line c ≡ min (line + 1) (2 ^ 64 - 1)
line_feed c line e = ap (line_after line) e

pub no_line_feed : (c line : ℕ) → (c ≡ 10 → ⊥) → line_after line c ≡ line
no_line_feed c line ne = cond-false (c == 10) (min (line + 1) (2 ^ 64 - 1)) line (ne_eqb c 10 ne)
