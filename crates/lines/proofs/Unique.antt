-- The bytes of fields tell the fields, and a line its command's.
-- Assumes nothing.
use Rattle.std.proofs.Common.{◌≡◌, ℕ, zero, suc, ◌/◌, ◌%◌, ◌^◌, ◌<◌, cond, eqb, List, [], ◌∷◌, ◌++◌, map, length, get_or, replicate, vec_items, sym, refl, ap, ◌∙◌, arith}
use mathlib.Core.List.{map-append}
use native.Mathlib.Nat.{pow-succ'}
use Rattle.std.proofs.lemmas.List.{length_push, same_from_push}
use Rattle.plan.specs.Parts.{scheme}
use Rattle.lines.specs.Commands.{Field, field, fields, kind, packed, Fitting}
use Rattle.lines.specs.Hex.{hex, big_endian}
use Rattle.lines.specs.Laws.{OneReading}
use Rattle.lines.specs.declared.command.Command.{Command}
use Rattle.lines.specs.declared.command.Command.TheVariants.{Plan, Table, Hear, Note, Blank, Look}
use Rattle.lines.proofs.Digits.{hex_same}
use Rattle.lines.proofs.Fielded.{length_single, packed_bytes, last_fields}

length_big : (width n : ℕ) → length (big_endian width n) ≡ width
length_big zero n = refl
length_big (suc width) n = length_push (big_endian width (n / 256)) (n % 256) ∙ (let e = length_big width (n / 256) in omega arith)

big_same : (width m n : ℕ) → m < 256 ^ width → n < 256 ^ width → big_endian width m ≡ big_endian width n → m ≡ n
big_same zero m n h k e = omega arith
big_same (suc width) m n h k e =
    let p = same_from_push (big_endian width (m / 256)) (big_endian width (n / 256)) (m % 256) (n % 256) e in
    let q = big_same width (m / 256) (n / 256) (omega (arith, pow-succ' 256 width)) (omega (arith, pow-succ' 256 width)) p.0 in
    omega (arith, p.1)

-- two lists cut at the same place
cut_same : (a b x y : List ℕ) → length a ≡ length b → a ++ x ≡ b ++ y → (a ≡ b) × (x ≡ y)
cut_same [] [] x y l e = (refl, e)
cut_same [] (q ∷ b) x y l e = absurd (omega arith)
cut_same (p ∷ a) [] x y l e = absurd (omega arith)
cut_same (p ∷ a) (q ∷ b) x y l e =
    let first : p ≡ q = cc in
    let rest : a ++ x ≡ b ++ y = cc in
    let s = cut_same a b x y (omega arith) rest in
    ((λ i. first i ∷ s.0 i), s.1)

widths : List Field → List ℕ
widths fs = map (λ f. f.width) fs

fields_same : (fs gs : List Field) → widths fs ≡ widths gs → Fitting fs → Fitting gs → packed fs ≡ packed gs → fs ≡ gs
unfolding widths
fields_same [] [] w hf hg e = refl
fields_same [] (g ∷ gs) w hf hg e = absurd (omega (arith, ap length w))
fields_same (f ∷ fs) [] w hf hg e = absurd (omega (arith, ap length w))
fields_same (f ∷ fs) (g ∷ gs) w hf hg e =
    let first : f.width ≡ g.width = cc in
    let rest : map (λ (x : Field). x.width) fs ≡ map (λ (x : Field). x.width) gs = cc in
    let s = cut_same (big_endian f.width f.number) (big_endian g.width g.number) (packed fs) (packed gs)
    (length_big f.width f.number ∙ first ∙ sym (length_big g.width g.number)) e in
    let same = big_same f.width f.number g.number hf.0 (rw first hg.0) (s.0 ∙ ap (λ n. big_endian n g.number) (sym first)) in
    let tail = fields_same fs gs rest hf.1 hg.1 s.1 in
    λ i. field (first i) (same i) ∷ tail i

-- the widths of the fields, as the first character and the bytes tell them
told : ℕ → List ℕ → List ℕ
told k bytes =
    cond (eqb k 80) (1 ∷ 1 ∷ 1 ∷ (replicate (get_or bytes 2 0) 1 ++ (3 ∷ 1 ∷ 2 ∷ 3 ∷ [])))
    (cond (eqb k 83) (replicate (length bytes) 1)
    (cond (eqb k 72) (3 ∷ 1 ∷ 2 ∷ [])
    (cond (eqb k 86) (3 ∷ 2 ∷ []) (cond (eqb k 67) (3 ∷ []) []))))

widths_single : (xs : List ℕ) → widths (map (field 1) xs) ≡ replicate (length xs) 1
unfolding widths
widths_single [] = refl
widths_single (x ∷ xs) = ap (λ l. 1 ∷ l) (widths_single xs)

widths_told : (c : Command) → Fitting (fields c) → widths (fields c) ≡ told (kind c) (packed (fields c))
unfolding widths told
widths_told (Plan parts) h =
    let s = scheme parts in
    let third : length s.entries % 256 ≡ length s.entries = omega (arith, h.1.1.0) in
    ap (λ l. 1 ∷ 1 ∷ 1 ∷ l)
    (map-append (λ (f : Field). f.width) (map (field 1) s.entries) (last_fields s)
    ∙ (λ i. widths_single s.entries i ++ (3 ∷ 1 ∷ 2 ∷ 3 ∷ [])) ∙ ap (λ n. replicate n 1 ++ (3 ∷ 1 ∷ 2 ∷ 3 ∷ [])) (sym third))
widths_told (Table values) h = widths_single (vec_items values) ∙ ap (λ n. replicate n 1) (sym (length_single (vec_items values)))
widths_told (Hear place index weight) h = refl
widths_told (Note location value) h = refl
widths_told (Blank place) h = refl
widths_told Look h = refl

pub one_reading : OneReading
one_reading line c d v w =
    let p = v.written in
    let q = w.written in
    let first : kind c ≡ kind d = cc in
    let digits : hex (packed (fields c)) ≡ hex (packed (fields d)) = cc in
    let same = hex_same (packed (fields c)) (packed (fields d)) (packed_bytes (fields c)) (packed_bytes (fields d)) digits in
    let wide = widths_told c v.fitting ∙ (λ i. told (first i) (same i)) ∙ sym (widths_told d w.fitting) in
    (first, fields_same (fields c) (fields d) wide v.fitting w.fitting same)
