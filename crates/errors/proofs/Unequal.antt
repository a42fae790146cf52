-- The places at which two blocks differ, counted pair by pair.
-- Assumes nothing.
use Rattle.std.proofs.Common.{◌≡◌, ℕ, zero, suc, ◌+◌, ◌%◌, ◌^◌, ◌<◌, ◌≤◌, ◌==◌, min, not, cond, List, [], ◌∷◌, length, refl, sym, ap, ◌∙◌, true, false, Bool, arith}
use Rattle.std.specs.List.{zip, filter, fold}
use native.Mathlib.Numerals.{unary_clauses}
use Rattle.errors.specs.Errors.{differing_below}

-- the pairs of unequal bytes
abbrev pub unequal_pairs : List ℕ → List ℕ → ℕ
unequal_pairs xs ys = length (filter (λ p. not (p.0 == p.1)) (zip xs ys))

-- the first place may be counted first
pub differing_below-cons : (x y : ℕ) (xs ys : List ℕ) (n : ℕ) → differing_below (x ∷ xs) (y ∷ ys) (suc n) ≡ cond (x == y) 0 1 + differing_below xs ys n
differing_below-cons x y xs ys zero = omega arith
differing_below-cons x y xs ys (suc n) = omega (arith, differing_below-cons x y xs ys n)

length-cond : (b : Bool) (p : ℕ × ℕ) (ps : List (ℕ × ℕ)) → length (cond (not b) (p ∷ ps) ps) ≡ cond b 0 1 + length ps
length-cond true p ps = omega arith
length-cond false p ps = omega arith

pub unequal_pairs_is : (xs ys : List ℕ) → unequal_pairs xs ys ≡ differing_below xs ys (min (length xs) (length ys))
unequal_pairs_is [] ys = simp unary_clauses refl
unequal_pairs_is (x ∷ xs) [] = simp unary_clauses refl
unequal_pairs_is (x ∷ xs) (y ∷ ys) =
    length-cond (x == y) (x, y) (filter (λ p. not (p.0 == p.1)) (zip xs ys))
    ∙ ap (λ n. cond (x == y) 0 1 + n) (unequal_pairs_is xs ys)
    ∙ simp unary_clauses (sym (differing_below-cons x y xs ys (min (length xs) (length ys))))

-- a pair more, in 64 bits
abbrev pub with_pair : ℕ → ℕ × ℕ → ℕ
with_pair n p = (n + cond (not (p.0 == p.1)) 1 0) % 2 ^ 64

one_more : (b : Bool) (n m : ℕ) → n + suc m < 2 ^ 64 → ((n + cond (not b) 1 0) % 2 ^ 64 ≡ n + cond b 0 1) × (n + cond b 0 1 + m < 2 ^ 64)
one_more true n m h = (omega arith, omega arith)
one_more false n m h = (omega arith, omega arith)

-- the pairs of a block are counted without a carry
pub counted_pairs : (xs ys : List ℕ) (n : ℕ) → n + length xs < 2 ^ 64 → fold with_pair n (zip xs ys) ≡ n + unequal_pairs xs ys
counted_pairs [] ys n h = omega arith
counted_pairs (x ∷ xs) [] n h = omega arith
counted_pairs (x ∷ xs) (y ∷ ys) n h =
    let more = one_more (x == y) n (length xs) h in
    let rest = counted_pairs xs ys (n + cond (x == y) 0 1) more.1 in
    let first = length-cond (x == y) (x, y) (filter (λ p. not (p.0 == p.1)) (zip xs ys)) in
    ap (λ k. fold with_pair k (zip xs ys)) more.0 ∙ omega (arith, rest, first)

cond_small : (b : Bool) → cond b 0 1 ≤ 1
cond_small true = omega arith
cond_small false = omega arith

-- no more pairs than places
pub unequal_pairs_le : (xs ys : List ℕ) → unequal_pairs xs ys ≤ min (length xs) (length ys)
unequal_pairs_le [] ys = omega arith
unequal_pairs_le (x ∷ xs) [] = omega arith
unequal_pairs_le (x ∷ xs) (y ∷ ys) =
    let first = length-cond (x == y) (x, y) (filter (λ p. not (p.0 == p.1)) (zip xs ys)) in
    omega (arith, first, cond_small (x == y), unequal_pairs_le xs ys)
