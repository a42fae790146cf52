-- Mapping to symbols and back.
-- Assumes nothing.
use Rattle.std.proofs.Common.{◌≡◌, ℕ, zero, suc, ◌+◌, ◌-◌, ◌^◌, ◌<◌, ◌≤◌, Bool, true, false, cond, ◌&&◌, eqb, ltb, leb, List, [], ◌∷◌, length, get_or, Some, None, Option, sym, refl, ap, ◌∙◌, subst, ⊎_elim, arith}
use native.Mathlib.Nat.{sub-zero}
use Rattle.std.specs.List.{position}
use Rattle.std.proofs.lemmas.Iterator.Adapters.{position_from-zero}
use Rattle.std.proofs.lemmas.Bool.{and_parts, cases_Bool, cases_lt, cond-true, cond-false, eqb-true, le-leb, lt-leb, lt-ltb, le-ltb}
use Rattle.code.specs.Laws.{Inverts}
use Rattle.code.specs.Mapping.{phases, place_from, symbol_of, number_of}

abbrev some_value : {X : Type 0} → X → Option X → X
some_value d None = d
some_value d (Some x) = x

-- a place that is found holds the symbol
found_at : (y i x : ℕ) (xs : List ℕ) → place_from y i xs ≡ Some x → (i ≤ x) × (x - i < length xs) × (get_or xs (x - i) 0 ≡ y)
found_at y i x [] e = let z : ◌≡◌ {A = ℕ} 0 1 = cc in absurd (omega arith)
found_at y i x (v ∷ vs) e =
    ⊎_elim
    (λ t. let here = ap (some_value 0) (sym (cond-true (eqb v y) (Some i) (place_from y (i + 1) vs) t) ∙ e) in
    let none : x - i ≡ 0 = omega arith in
    (omega arith, omega arith, ap (λ j. get_or (v ∷ vs) j 0) none ∙ eqb-true v y t))
    (λ t. let later = found_at y (i + 1) x vs (sym (cond-false (eqb v y) (Some i) (place_from y (i + 1) vs) t) ∙ e) in
    let one_on : x - i ≡ suc (x - (i + 1)) = omega (arith, later.0) in
    (omega (arith, later.0), omega (arith, later.1, one_on), ap (λ j. get_or (v ∷ vs) j 0) one_on ∙ later.2))
    (cases_Bool (eqb v y))

none_from : (o : Option ℕ) → ((x : ℕ) → o ≡ Some x → ⊥) → o ≡ None
none_from None h = refl
none_from (Some x) h = absurd (h x refl)

-- an option holds this number
holds : ℕ → Option ℕ → Bool
holds x None = false
holds x (Some y) = eqb y x

holds_true : (x : ℕ) (o : Option ℕ) → holds x o ≡ true → o ≡ Some x
unfolding holds
holds_true x None e = let z : ◌≡◌ {A = ℕ} 0 1 = ap (λ b. cond b 1 0) e in absurd (omega arith)
holds_true x (Some y) e = ap Some (eqb-true y x e)

-- each of the first n places is found again
undone : List ℕ → ℕ → Bool
undone xs zero = true
undone xs (suc n) = holds n (place_from (get_or xs n 0) 0 xs) && undone xs n

undone_at : (xs : List ℕ) (n : ℕ) → undone xs n ≡ true → (x : ℕ) → x < n → place_from (get_or xs x 0) 0 xs ≡ Some x
unfolding undone
undone_at xs zero t x h = absurd (omega arith)
undone_at xs (suc n) t x h =
    let p = and_parts (holds n (place_from (get_or xs n 0) 0 xs)) (undone xs n) t in
    ⊎_elim (λ lt. undone_at xs n p.1 x lt)
    (λ ge. let e : n ≡ x = omega arith in subst (λ m. place_from (get_or xs m 0) 0 xs ≡ Some m) e (holds_true n _ p.0)) (cases_lt x n)

pub symbol_low : (q x : ℕ) → q ≤ 3 → symbol_of q x ≡ get_or (phases q) x 0
unfolding symbol_of
symbol_low q x h = cond-true (leb q 3) (get_or (phases q) x 0) x (le-leb q 3 h)

pub symbol_high : (q x : ℕ) → 3 < q → symbol_of q x ≡ x
unfolding symbol_of
symbol_high q x h = cond-false (leb q 3) (get_or (phases q) x 0) x (lt-leb q 3 h)

pub number_low : (q y : ℕ) → q ≤ 3 → number_of q y ≡ place_from y 0 (phases q)
unfolding number_of
number_low q y h = cond-true (leb q 3) (place_from y 0 (phases q)) _ (le-leb q 3 h)

pub number_high : (q y : ℕ) → 3 < q → number_of q y ≡ cond (ltb y (2 ^ q)) (Some y) None
unfolding number_of
number_high q y h = cond-false (leb q 3) (place_from y 0 (phases q)) _ (lt-leb q 3 h)

-- the first place at which a symbol stands in the list of phases
pub number_placed : (q y : ℕ) (list : List ℕ) (r : Option ℕ) → q ≤ 3 → list ≡ phases q → r ≡ position (λ x. eqb x y) list → r ≡ number_of q y
number_placed q y list r h e p = p ∙ ap (position (λ x. eqb x y)) e ∙ position_from-zero (λ x. eqb x y) (phases q) ∙ sym (number_low q y h)

-- by the list of phases, which has 2 to the power q places, each found again
inverts_low : (q : ℕ) → q ≤ 3 → length (phases q) ≡ 2 ^ q → undone (phases q) (2 ^ q) ≡ true → Inverts q
inverts_low q h long t =
    let back : (x : ℕ) → x < 2 ^ q → number_of q (symbol_of q x) ≡ Some x =
    λ x lt. number_low q (symbol_of q x) h ∙ ap (λ y. place_from y 0 (phases q)) (symbol_low q x h) ∙ undone_at (phases q) (2 ^ q) t x lt in
    let right : (x y : ℕ) → number_of q y ≡ Some x → (x < 2 ^ q) × (symbol_of q x ≡ y) =
    λ x y e. let f = found_at y 0 x (phases q) (sym (number_low q y h) ∙ e) in
    (omega (arith, f.1, long), symbol_low q x h ∙ ap (λ j. get_or (phases q) j 0) (sym (sub-zero x)) ∙ f.2) in
    record { undoes = back; right = right; outside = λ y none. none_from (number_of q y) (λ x e. none x (right x y e).0 (right x y e).1) }

inverts_high : (q : ℕ) → 3 < q → Inverts q
inverts_high q h =
    let right : (x y : ℕ) → number_of q y ≡ Some x → (x < 2 ^ q) × (symbol_of q x ≡ y) =
    λ x y e. ⊎_elim
    (λ lt. let same = ap (some_value 0) (sym (number_high q y h ∙ cond-true (ltb y (2 ^ q)) (Some y) None (lt-ltb y (2 ^ q) lt)) ∙ e) in
    (omega arith, symbol_high q x h ∙ sym same))
    (λ ge. let no_way = sym (number_high q y h ∙ cond-false (ltb y (2 ^ q)) (Some y) None (le-ltb y (2 ^ q) ge)) ∙ e in
    let z : ◌≡◌ {A = ℕ} 0 1 = cc in absurd (omega arith))
    (cases_lt y (2 ^ q)) in
    record {
      undoes = λ x lt. ap (number_of q) (symbol_high q x h) ∙ number_high q x h ∙ cond-true (ltb x (2 ^ q)) (Some x) None (lt-ltb x (2 ^ q) lt);
      right = right;
      outside = λ y none. none_from (number_of q y) (λ x e. none x (right x y e).0 (right x y e).1);
    }

pub inverts : (q : ℕ) → 1 ≤ q → Inverts q
unfolding undone holds
inverts zero h = absurd (omega arith)
inverts (suc zero) h = inverts_low 1 (omega arith) refl refl
inverts (suc (suc zero)) h = inverts_low 2 (omega arith) refl refl
inverts (suc (suc (suc zero))) h = inverts_low 3 (omega arith) refl refl
inverts (suc (suc (suc (suc q)))) h = inverts_high (suc (suc (suc (suc q)))) (omega arith)
