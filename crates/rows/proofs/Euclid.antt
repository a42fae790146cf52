-- Euclid's rule as a test that computes at once, in place of the search through all divisors.
-- Assumes nothing.
use Rattle.std.proofs.Common.{◌≡◌, ℕ, zero, suc, ◌%◌, Bool, true, false, cond, eqb, refl, subst}
use Rattle.std.proofs.lemmas.Bool.{eqb-true, false≢true}
use Rattle.plan.specs.Questions.{coprime}
use Rattle.plan.proofs.Divisors.{SameDivisors, euclid_step, euclid_yes}

-- at most so many steps from (x, y) lead to (1, 0)
abbrev pub ends_at_one : ℕ → ℕ → ℕ → Bool
ends_at_one zero x y = false
ends_at_one (suc steps) x y = cond (eqb y 0) (eqb x 1) (ends_at_one steps y (x % y))

-- the test at one step: y is 0, or there is a step to come
cases : (b : Bool) (steps x y a n : ℕ) → (b ≡ true → y ≡ 0) → ((x y : ℕ) → ends_at_one steps x y ≡ true → SameDivisors x y a n → coprime a n ≡ true) →
    cond b (eqb x 1) (ends_at_one steps y (x % y)) ≡ true → SameDivisors x y a n → coprime a n ≡ true
cases true steps x y a n z later t s = euclid_yes x a n (subst (λ m. SameDivisors x m a n) (z refl) s) (eqb-true x 1 t)
cases false steps x y a n z later t s = later y (x % y) t (euclid_step x y a n s)

from : (steps a n x y : ℕ) → ends_at_one steps x y ≡ true → SameDivisors x y a n → coprime a n ≡ true
from zero a n x y t s = absurd (false≢true t)
from (suc steps) a n x y t s = cases (eqb y 0) steps x y a n (eqb-true y 0) (from steps a n) t s

pub coprime_from_steps : (steps a n : ℕ) → ends_at_one steps a n ≡ true → coprime a n ≡ true
coprime_from_steps steps a n t = from steps a n a n t (λ d. (λ h. h, λ h. h))
