-- Sums over the numbers below a bound.
-- Assumes nothing.
use Rattle.std.proofs.Common.{◌≡◌, ℕ, zero, suc, ◌+◌, ◌*◌, ◌<◌, ◌≤◌, cond, eqb, refl, ap, ◌∙◌, ⊎_elim, arith}
use Rattle.std.proofs.lemmas.Bool.{cases_eq, eq-eqb, ne_eqb}
use Rattle.score.specs.Sums.{sum_below}

pub sum_same : (f g : ℕ → ℕ) (n : ℕ) → ((i : ℕ) → i < n → f i ≡ g i) → sum_below f n ≡ sum_below g n
sum_same f g zero h = refl
sum_same f g (suc n) h = let a = sum_same f g n (λ i l. h i (omega arith)) in let b = h n (omega arith) in omega arith

pub sum_none : (n : ℕ) → sum_below (λ _. 0) n ≡ 0
sum_none zero = refl
sum_none (suc n) = let a = sum_none n in omega arith

pub sum_add : (f g : ℕ → ℕ) (n : ℕ) → sum_below (λ i. f i + g i) n ≡ sum_below f n + sum_below g n
sum_add f g zero = refl
sum_add f g (suc n) = let a = sum_add f g n in omega arith

pub sum_split : (f : ℕ → ℕ) (a b : ℕ) → sum_below f (a + b) ≡ sum_below f a + sum_below (λ i. f (a + i)) b
sum_split f a zero = let z : a + 0 ≡ a = omega arith in rw z (omega arith)
sum_split f a (suc b) = let z : a + suc b ≡ suc (a + b) = omega arith in let r = sum_split f a b in rw z (omega arith)

-- a sum in runs of p
pub sum_runs : (f : ℕ → ℕ) (q p : ℕ) → sum_below f (q * p) ≡ sum_below (λ j. sum_below (λ r. f (j * p + r)) p) q
sum_runs f zero p = let z : 0 * p ≡ 0 = omega arith in rw z
sum_runs f (suc q) p =
    let z : suc q * p ≡ q * p + p = omega arith in
    let r = sum_runs f q p in
    rw z (sum_split f (q * p) p ∙ ap (λ a. a + sum_below (λ i. f (q * p + i)) p) r)

-- a sum in pairs
pub sum_pairs : (f : ℕ → ℕ) (p : ℕ) → sum_below f (2 * p) ≡ sum_below (λ r. f (2 * r) + f (2 * r + 1)) p
sum_pairs f zero = refl
sum_pairs f (suc p) =
    let z : 2 * suc p ≡ suc (suc (2 * p)) = omega arith in
    let o = ap f (let e : suc (2 * p) ≡ 2 * p + 1 = omega arith in e) in
    let r = sum_pairs f p in
    rw z (omega arith)

pub sum_front : (f : ℕ → ℕ) (n : ℕ) → sum_below f (suc n) ≡ f 0 + sum_below (λ i. f (suc i)) n
sum_front f zero = omega arith
sum_front f (suc n) = let r = sum_front f n in omega arith

sum_past : (f : ℕ → ℕ) (x n : ℕ) → n ≤ x → sum_below (λ e. cond (eqb x e) (f e) 0) n ≡ 0
sum_past f x zero h = refl
sum_past f x (suc n) h =
    let t = ne_eqb x n (λ e. omega arith) in
    let r = sum_past f x n (omega arith) in
    rw t (omega arith)

-- of a sum only the term at x is left
pub sum_point : (f : ℕ → ℕ) (x n : ℕ) → x < n → sum_below (λ e. cond (eqb x e) (f e) 0) n ≡ f x
sum_point f x zero h = absurd (omega arith)
sum_point f x (suc n) h =
    ⊎_elim
    (λ e. let t = eq-eqb x n e in let r = sum_past f x n (omega arith) in let q = ap f e in rw t (omega arith))
    (λ e. let t = ne_eqb x n e in let r = sum_point f x n (omega arith) in rw t (omega arith))
    (cases_eq x n)
