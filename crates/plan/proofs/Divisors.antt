-- Common divisors: what the test for co-primality says, and Euclid's step.
-- Assumes nothing.
use Rattle.std.proofs.Common.{◌≡◌, ℕ, zero, suc, ◌+◌, ◌-◌, ◌%◌, ◌<◌, true, not, ◌&&◌, ◌⊎◌, Decides, sym, refl, ◌∙◌, subst, inl, inr, ⊎_elim, arith}
use native.Mathlib.Nat.{mod-zero, mod_self, zero-mod, dvd-mod_iff, dvd_of_mod-eq-zero, mod-eq-zero_of_dvd, le_of_dvd, eq-one_of_dvd-one}
use Rattle.std.proofs.lemmas.Bool.Decides.{Decides-eqb, Decides-and, Decides-not, Decides-below_and}
use Rattle.plan.specs.Questions.{divides, none_divides, coprime}

abbrev pub Common : ℕ → ℕ → ℕ → Type 0
Common d a n = (a % d ≡ 0) × (n % d ≡ 0)

-- none of the numbers from 2 to count + 1 is a common divisor
none_decides : (a n count : ℕ) → Decides (none_divides a n count) ((k : ℕ) → k < count → Common (k + 2) a n → ⊥)
none_decides a n =
    Decides-below_and (λ k. not (divides (k + 2) a && divides (k + 2) n)) (λ k. Common (k + 2) a n → ⊥)
    (none_divides a n) (λ k. Decides-not _ (Decides-and _ _ (Decides-eqb (a % (k + 2)) 0) (Decides-eqb (n % (k + 2)) 0)))
    refl (λ _. refl)

-- a common divisor of a positive number is 1, or one of those that the test tries
tried : (a n d : ℕ) → 0 < n → Common d a n → (d ≡ 1) ⊎ ((k : ℕ) × (k < n - 1) × (k + 2 ≡ d))
tried a n zero h c = let p = sym (mod-zero n) ∙ c.1 in absurd (omega arith)
tried a n (suc zero) h c = inl refl
tried a n (suc (suc k)) h c = let le = le_of_dvd h (dvd_of_mod-eq-zero (suc (suc k)) c.1) in inr (k, omega arith, omega arith)

pub coprime_means : (a n : ℕ) → 0 < n → coprime a n ≡ true → (d : ℕ) → Common d a n → d ≡ 1
unfolding coprime
coprime_means a n h t d c =
    ⊎_elim (λ e. e)
    (λ r. absurd ((none_decides a n (n - 1)).0 t r.0 r.1 (subst (λ m. Common m a n) (sym r.2) c)))
    (tried a n d h c)

pub coprime_from : (a n : ℕ) → ((d : ℕ) → Common d a n → d ≡ 1) → coprime a n ≡ true
unfolding coprime
coprime_from a n f = (none_decides a n (n - 1)).1 (λ k l c. let e = f (k + 2) c in absurd (omega arith))

-- the divisors that (x, y) and (a, n) have in common are the same
abbrev pub SameDivisors : ℕ → ℕ → ℕ → ℕ → Type 0
SameDivisors x y a n = (d : ℕ) → (Common d x y → Common d a n) × (Common d a n → Common d x y)

pub euclid_step : (x y a n : ℕ) → SameDivisors x y a n → SameDivisors y (x % y) a n
euclid_step x y a n s d = (
  λ c. let dy = dvd_of_mod-eq-zero d c.0 in
      (s d).0 (mod-eq-zero_of_dvd d ((dvd-mod_iff d dy).0 (dvd_of_mod-eq-zero d c.1)), c.0),
  λ c. let b = (s d).1 c in let dy = dvd_of_mod-eq-zero d b.1 in
      (b.1, mod-eq-zero_of_dvd d ((dvd-mod_iff d dy).1 (dvd_of_mod-eq-zero d b.0))),
)

pub euclid_yes : (x a n : ℕ) → SameDivisors x 0 a n → x ≡ 1 → coprime a n ≡ true
euclid_yes x a n s e = coprime_from a n (λ d c. eq-one_of_dvd-one (rw e at (dvd_of_mod-eq-zero d ((s d).1 c).0)))

pub euclid_no : (x a n : ℕ) → 0 < n → SameDivisors x 0 a n → coprime a n ≡ true → x ≡ 1
euclid_no x a n h s t = coprime_means a n h t x ((s x).0 (mod_self x, zero-mod x))
