-- Lists of words, and words that differ.
use Rattle.std.proofs.Common.{◌≡◌, ℕ, ◌<◌, ◌≤◌, ◌-◌, ◌≢◌, ◌⊎◌, inl, inr, Bool, true, false, List, [], ◌∷◌, length, get_or, take, drop, string_bytes, String, bytes_eq, refl, sym, ◌∙◌, ap, arith}
use Rattle.std.proofs.lemmas.Grind.{common_steps}
use Rattle.std.proofs.lemmas.List.{length-map}
use Rattle.std.proofs.lemmas.Slice.Eq.{bytes_eq-Decides}
use Rattle.std.specs.declared.alloc.Global.{Global}
use Rattle.orders.specs.Words.{bytes_of}

pub head_same : {a b : List ℕ} {xs ys : List (List ℕ)} → a ∷ xs ≡ b ∷ ys → a ≡ b
head_same e = cc

pub tail_same : {a b : List ℕ} {xs ys : List (List ℕ)} → a ∷ xs ≡ b ∷ ys → xs ≡ ys
tail_same e = cc

never : (b : Bool) → b ≡ false → b ≡ true → ⊥
never b f t = cc

-- texts that a test tells apart
pub differ : (xs ys : List ℕ) → bytes_eq xs ys ≡ false → xs ≡ ys → ⊥
differ xs ys f e = never (bytes_eq xs ys) f ((bytes_eq-Decides xs ys).1 e)

pub length-bytes_of : (ws : List (String Global)) → length (bytes_of ws) ≡ length ws
length-bytes_of ws = length-map ws string_bytes

pub none_of : (ws : List (String Global)) → length ws < 1 → bytes_of ws ≡ []
none_of [] n = refl
none_of (x ∷ ws) n = absurd (omega arith)

pub not_two : (ws : List (String Global)) → (length ws < 2) ⊎ (3 ≤ length ws) → length (bytes_of ws) ≢ 2
not_two ws (inl few) e = omega (arith, few, e, length-bytes_of ws)
not_two ws (inr many) e = omega (arith, many, e, length-bytes_of ws)

-- the first words are those of the items that stand there
first_of : (ws : List (String Global)) (a : String Global) → 1 ≤ length ws → a ≡ get_or ws 0 a →
    bytes_of ws ≡ string_bytes a ∷ bytes_of (take (length ws - 1) (drop 1 ws))
first_of [] a n e = absurd (omega arith)
first_of (x ∷ ws) a n e = grind (arith, common_steps)

two_of : (ws : List (String Global)) (a b : String Global) → 2 ≤ length ws → a ≡ get_or ws 0 a → b ≡ get_or ws 1 b →
    bytes_of ws ≡ string_bytes a ∷ string_bytes b ∷ bytes_of (take (length ws - 2) (drop 2 ws))
two_of [] a b n e f = absurd (omega arith)
two_of (x ∷ []) a b n e f = absurd (omega arith)
two_of (x ∷ y ∷ ws) a b n e f = grind (arith, common_steps)

four_of : (ws : List (String Global)) (a b c d : String Global) → 4 ≤ length ws → a ≡ get_or ws 0 a → b ≡ get_or ws 1 b → c ≡ get_or ws 2 c → d ≡ get_or ws 3 d →
    bytes_of ws ≡ string_bytes a ∷ string_bytes b ∷ string_bytes c ∷ string_bytes d ∷ bytes_of (take (length ws - 4) (drop 4 ws))
four_of [] a b c d n e f g h = absurd (omega arith)
four_of (x ∷ []) a b c d n e f g h = absurd (omega arith)
four_of (x ∷ y ∷ []) a b c d n e f g h = absurd (omega arith)
four_of (x ∷ y ∷ z ∷ []) a b c d n e f g h = absurd (omega arith)
four_of (x ∷ y ∷ z ∷ v ∷ ws) a b c d n e f g h = grind (arith, common_steps)

-- the same of the texts that are read of them
pub first_is : (ws : List (String Global)) (a : String Global) (shown word : List ℕ) → 1 ≤ length ws → a ≡ get_or ws 0 a → shown ≡ string_bytes a → shown ≡ word →
    bytes_of ws ≡ word ∷ bytes_of (take (length ws - 1) (drop 1 ws))
first_is ws a shown word n e s w = first_of ws a n e ∙ ap (λ x. x ∷ bytes_of (take (length ws - 1) (drop 1 ws))) (sym s ∙ w)

pub two_are : (ws : List (String Global)) (a b : String Global) (p q : List ℕ) → 2 ≤ length ws → a ≡ get_or ws 0 a → b ≡ get_or ws 1 b → p ≡ string_bytes a → q ≡ string_bytes b →
    bytes_of ws ≡ p ∷ q ∷ bytes_of (take (length ws - 2) (drop 2 ws))
two_are ws a b p q n e f s t = rw (s, t) (two_of ws a b n e f)

pub four_are : (ws : List (String Global)) (a b c d : String Global) (p q r s : List ℕ) → 4 ≤ length ws → a ≡ get_or ws 0 a → b ≡ get_or ws 1 b → c ≡ get_or ws 2 c → d ≡ get_or ws 3 d →
    p ≡ string_bytes a → q ≡ string_bytes b → r ≡ string_bytes c → s ≡ string_bytes d →
    bytes_of ws ≡ p ∷ q ∷ r ∷ s ∷ bytes_of (take (length ws - 4) (drop 4 ws))
four_are ws a b c d p q r s n e f g h i j k l = rw (i, j, k, l) (four_of ws a b c d n e f g h)
