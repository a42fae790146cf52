-- Texts of hexadecimal digits: cut after some bytes, and their lengths.
-- Assumes nothing.
use Rattle.std.proofs.Common.{◌≡◌, ℕ, ◌-◌, ◌*◌, ◌/◌, ◌%◌, ◌<◌, ◌≤◌, List, [], ◌∷◌, ◌++◌, length, get_or, take, drop, sym, refl, ap, ◌∙◌, append_assoc, arith, length-append}
use Rattle.std.proofs.lemmas.List.{take_rest}
use Rattle.std.proofs.lemmas.Bool.Decides.{nat_tests}
use Rattle.lines.specs.Hex.{hex_digit, hex, Bytes}

pub hex_append : (a b : List ℕ) → hex (a ++ b) ≡ hex a ++ hex b
hex_append [] b = refl
hex_append (x ∷ a) b = ap (λ l. hex_digit (x / 16) ∷ hex_digit (x % 16) ∷ l) (hex_append a b)

pub length_hex : (bs : List ℕ) → length (hex bs) ≡ 2 * length bs
length_hex [] = refl
length_hex (b ∷ bs) = let e = length_hex bs in omega arith

-- what follows the digits of some bytes is the digits of others
pub hex_rest : (front bs rest : List ℕ) → Bytes bs → hex bs ≡ hex front ++ rest → (cs : List ℕ) × Bytes cs × (hex cs ≡ rest)
hex_rest [] bs rest h e = (bs, h, e)
hex_rest (x ∷ front) [] rest h e = absurd (omega (arith, ap length e))
hex_rest (x ∷ front) (b ∷ bs) rest h e = hex_rest front bs rest h.1 (cc)

-- a text of digits begins with those of a byte
pub hex_first : (bs : List ℕ) (high low : ℕ) (rest : List ℕ) → Bytes bs → hex bs ≡ high ∷ low ∷ rest → (b : ℕ) × (b < 256) × (hex (b ∷ []) ≡ high ∷ low ∷ [])
hex_first [] high low rest h e = absurd (omega (arith, ap length e))
hex_first (b ∷ bs) high low rest h e = (b, h.0, cc)

-- one digit more than those of some bytes
pub hex_odd : (front bs rest : List ℕ) → hex bs ≡ hex front ++ rest → length rest ≡ 1 → ⊥
hex_odd front bs rest e one =
    let d = simp length-append at (ap length e) in
    let p = length_hex front in
    let q = length_hex bs in
    omega arith

-- a slice of two bytes or more, as its pattern takes it apart
pub two_first : (xs : List ℕ) → 2 ≤ length xs → xs ≡ get_or xs 0 0 ∷ get_or xs 1 0 ∷ take (length xs - 2) (drop 2 xs)
two_first [] h = absurd (omega arith)
two_first (x ∷ []) h = absurd (omega arith)
two_first (x ∷ y ∷ xs) h = ap (λ l. x ∷ y ∷ l) (sym (take_rest (x ∷ y ∷ xs) 2))

-- two digits are read
pub hex_more : (front rest text more : List ℕ) (high low b : ℕ) → hex front ++ rest ≡ text → rest ≡ high ∷ low ∷ more → hex (b ∷ []) ≡ high ∷ low ∷ [] → hex (front ++ b ∷ []) ++ more ≡ text
hex_more front rest text more high low b e r p =
    ap (λ l. l ++ more) (hex_append front (b ∷ [])) ∙ append_assoc (hex front) (hex (b ∷ [])) more
    ∙ ap (λ l. hex front ++ (l ++ more)) p ∙ ap (λ l. hex front ++ l) (sym r) ∙ e

digit_same : (m n : ℕ) → m < 16 → n < 16 → hex_digit m ≡ hex_digit n → m ≡ n
digit_same m n h k e = grind (arith, nat_tests)

-- bytes with the same digits are the same
pub hex_same : (a b : List ℕ) → Bytes a → Bytes b → hex a ≡ hex b → a ≡ b
hex_same [] [] ha hb e = refl
hex_same [] (y ∷ b) ha hb e = absurd (omega (arith, ap length e))
hex_same (x ∷ a) [] ha hb e = absurd (omega (arith, ap length e))
hex_same (x ∷ a) (y ∷ b) ha hb e =
    let high : hex_digit (x / 16) ≡ hex_digit (y / 16) = cc in
    let low : hex_digit (x % 16) ≡ hex_digit (y % 16) = cc in
    let rest : hex a ≡ hex b = cc in
    let p = digit_same (x / 16) (y / 16) (omega (arith, ha.0)) (omega (arith, hb.0)) high in
    let q = digit_same (x % 16) (y % 16) (omega arith) (omega arith) low in
    let same : x ≡ y = omega arith in
    let tail = hex_same a b ha.1 hb.1 rest in
    cc
