-- The lines of a block tell its number and its indices.
-- Assumes nothing.
use Rattle.std.proofs.Common.{◌≡◌, ℕ, suc, ◌+◌, ◌^◌, ◌<◌, ◌≤◌, List, [], ◌∷◌, ◌++◌, length, get_or, drop, codes, sym, refl, ap, ◌∙◌, append_assoc, arith, length-append}
use Rattle.std.proofs.lemmas.Fmt.{decimal_is_IsNumeral, decimal_injective}
use Rattle.std.proofs.lemmas.Str.Parse.{digit_at}
use Rattle.std.specs.Fmt.{decimal}
use Rattle.air_text.specs.Lines.{place_line, place_lines}
use Rattle.air_text.specs.Laws.{Bytes, OneBlock}

-- each byte is above the blank and the line feed
Above : List ℕ → Type 0
Above word = (k : ℕ) → k < length word → 33 ≤ get_or word k 0

decimal_above : (n : ℕ) → n < 2 ^ 64 → Above (decimal n)
unfolding Above
decimal_above n small k lt = let d = digit_at (decimal n) k (decimal_is_IsNumeral n small).0.1 lt in omega (arith, d.0)

-- two words before the same blank or line feed, and what follows
parted : (c : ℕ) (a b r s : List ℕ) → c < 33 → Above a → Above b → a ++ c ∷ r ≡ b ++ c ∷ s → (a ≡ b) × (r ≡ s)
unfolding Above
parted c [] [] r s low h g e = (refl, ap (drop 1) e)
parted c [] (y ∷ b) r s low h g e = let first : c ≡ y = ap (λ l. get_or l 0 0) e in absurd (let up : 33 ≤ y = g 0 (omega arith) in omega arith)
parted c (x ∷ a) [] r s low h g e = let first : x ≡ c = ap (λ l. get_or l 0 0) e in absurd (let up : 33 ≤ x = h 0 (omega arith) in omega arith)
parted c (x ∷ a) (y ∷ b) r s low h g e =
    let first : x ≡ y = ap (λ l. get_or l 0 0) e in
    let rest = parted c a b r s low (λ k lt. h (suc k) (omega arith)) (λ k lt. g (suc k) (omega arith)) (ap (drop 1) e) in
    ((λ i. first i ∷ rest.0 i), rest.1)

number_parted : (c m n : ℕ) (r s : List ℕ) → c < 33 → m < 2 ^ 64 → n < 2 ^ 64 → decimal m ++ c ∷ r ≡ decimal n ++ c ∷ s → (m ≡ n) × (r ≡ s)
number_parted c m n r s low a b e =
    let p = parted c (decimal m) (decimal n) r s low (decimal_above m a) (decimal_above n b) e in
    (decimal_injective m n a b p.0, p.1)

same_front : (a r s : List ℕ) → a ++ r ≡ a ++ s → r ≡ s
same_front [] r s e = e
same_front (x ∷ a) r s e = same_front a r s (ap (drop 1) e)

-- a place's line, and what follows it
line_apart : (place index : ℕ) (rest : List ℕ) → place_line place index ++ rest ≡ decimal place ++ (32 ∷ (decimal index ++ (10 ∷ rest)))
line_apart place index rest =
    append_assoc (decimal place) (32 ∷ (decimal index ++ (10 ∷ []))) rest
    ∙ ap (λ l. decimal place ++ (32 ∷ l)) (append_assoc (decimal index) (10 ∷ []) rest)

line_long : (place index : ℕ) (rest : List ℕ) → 0 < length (place_line place index ++ rest)
line_long place index rest = let e = ap length (line_apart place index rest) in omega (arith, e, length-append {A = ℕ})

indices_told : (place : ℕ) (xs ys : List ℕ) → Bytes xs → Bytes ys → place_lines place xs ≡ place_lines place ys → xs ≡ ys
indices_told place [] [] a b e = refl
indices_told place [] (y ∷ ys) a b e = absurd (omega (arith, ap length e, line_long place y (place_lines (place + 1) ys)))
indices_told place (x ∷ xs) [] a b e = absurd (omega (arith, ap length e, line_long place x (place_lines (place + 1) xs)))
indices_told place (x ∷ xs) (y ∷ ys) a b e =
    let more = place_lines (place + 1) xs in
    let other = place_lines (place + 1) ys in
    let apart = sym (line_apart place x more) ∙ e ∙ line_apart place y other in
    let behind : decimal x ++ (10 ∷ more) ≡ decimal y ++ (10 ∷ other) = ap (drop 1) (same_front (decimal place) _ _ apart) in
    let p = number_parted 10 x y more other (omega arith) (omega (arith, a.0)) (omega (arith, b.0)) behind in
    let rest = indices_told (place + 1) xs ys a.1 b.1 p.1 in
    λ i. p.0 i ∷ rest i

pub one_block : OneBlock
one_block m n xs ys a b h g e =
    let behind : decimal m ++ (10 ∷ place_lines 0 xs) ≡ decimal n ++ (10 ∷ place_lines 0 ys) = same_front (codes "# block ") _ _ e in
    let p = number_parted 10 m n (place_lines 0 xs) (place_lines 0 ys) (omega arith) a b behind in
    (p.0, indices_told 0 xs ys h g p.1)
