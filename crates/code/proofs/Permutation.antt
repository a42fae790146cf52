-- Steps of a co-prime increment reach every location once.
-- Assumes nothing.
use Rattle.std.proofs.Common.{◌≡◌, ℕ, zero, suc, ◌+◌, ◌*◌, ◌/◌, ◌%◌, ◌<◌, ◌≤◌, true, sym, ap, ◌∙◌, le_refl, mod-lt, mod-eq_of_lt, mul_assoc, suc-mul, mul_comm, add-mul, one-mul, mul-add, mul_left_comm, arith}
use native.Mathlib.Nat.{mod_self, zero-mod, div-add-mod, add-mul-mod_self_left, mul-add-mod_self_left}
use Rattle.plan.specs.Questions.{coprime}
use Rattle.plan.proofs.Divisors.{Common, coprime_means, euclid_step}

-- x u + y w is 1 more than x t + y v
record Bezout (x y : ℕ) : Type 0 where
  u : ℕ
  w : ℕ
  t : ℕ
  v : ℕ
  holds : x * u + y * w ≡ 1 + x * t + y * v

step : (x y q r u w t v : ℕ) → x ≡ y * q + r → y * u + r * w ≡ 1 + y * t + r * v → x * w + y * (u + q * v) ≡ 1 + x * v + y * (t + q * w)
step x y q r u w t v e h =
    let part : (z : ℕ) → x * z ≡ y * (q * z) + r * z = λ z. ap (λ n. n * z) e ∙ add-mul (y * q) r z ∙ ap (λ n. n + r * z) (mul_assoc y q z) in
    omega (arith, part w, part v, mul-add y u (q * v), mul-add y t (q * w))

bezout : (fuel x y : ℕ) → y ≤ fuel → ((d : ℕ) → Common d x y → d ≡ 1) → Bezout x y
bezout fuel x zero le c =
    let e : x ≡ 1 = c x (mod_self x, zero-mod x) in
    record { u = 1; w = 0; t = 0; v = 0; holds = omega arith }
bezout zero x (suc y) le c = absurd (omega arith)
bezout (suc fuel) x (suc y) le c =
    let same = euclid_step x (suc y) x (suc y) (λ d. (λ h. h, λ h. h)) in
    let less : x % suc y ≤ fuel = omega (arith, mod-lt x {m = suc y} (omega arith)) in
    let b = bezout fuel (suc y) (x % suc y) less (λ d h. c d ((same d).0 h)) in
    record {
      u = b.w;
      w = b.u + x / suc y * b.v;
      t = b.v;
      v = b.t + x / suc y * b.w;
      holds = step x (suc y) (x / suc y) (x % suc y) b.u b.w b.t b.v (sym (div-add-mod x (suc y))) b.holds;
    }

-- a number that takes a back to 1 modulo n
inverse_of : (a n : ℕ) → 0 < n → Bezout a n → (x : ℕ) × (a * x % n ≡ 1 % n)
inverse_of a zero pos b = absurd (omega arith)
inverse_of a (suc m) pos b =
    let x = b.u + m * b.t in
    let whole : a * x + suc m * b.w ≡ 1 + suc m * (b.v + a * b.t) =
    omega (arith, b.holds, mul-add a b.u (m * b.t), mul_left_comm a m b.t, mul-add (suc m) b.v (a * b.t), suc-mul m (a * b.t)) in
    (x, sym (add-mul-mod_self_left (a * x) (suc m) b.w) ∙ ap (λ y. y % suc m) whole ∙ add-mul-mod_self_left 1 (suc m) (b.v + a * b.t))

-- a factor may be reduced first
mod_factor : (x y n : ℕ) → x % n * y % n ≡ x * y % n
mod_factor x y n =
    sym (ap (λ z. z * y % n) (sym (div-add-mod x n)) ∙ ap (λ z. z % n) (add-mul (n * (x / n)) (x % n) y ∙ ap (λ z. z + x % n * y) (mul_assoc n (x / n) y)) ∙ mul-add-mod_self_left n (x / n * y) (x % n * y))

-- what a does, its inverse undoes
undone : (a x n : ℕ) → a * x % n ≡ 1 % n → (i : ℕ) → i < n → i * a % n * x % n ≡ i
undone a x n e i h =
    mod_factor (i * a) x n
    ∙ ap (λ z. z % n) (mul_assoc i a x ∙ mul_comm i (a * x))
    ∙ sym (mod_factor (a * x) i n) ∙ ap (λ z. z * i % n) e ∙ mod_factor 1 i n
    ∙ ap (λ z. z % n) (one-mul i) ∙ mod-eq_of_lt h

module _ (a n : ℕ) (pos : 0 < n) (free : coprime a n ≡ true) where
  inverse : (x : ℕ) × (a * x % n ≡ 1 % n)
  inverse = inverse_of a n pos (bezout n a n (le_refl n) (coprime_means a n pos free))

  -- each location is that of some sent bit
  pub reached : (l : ℕ) → l < n → (m : ℕ) × (m < n) × (m * a % n ≡ l)
  reached l h =
      let x = inverse.0 in
      (l * x % n, mod-lt (l * x) pos, undone x a n (ap (λ z. z % n) (mul_comm x a) ∙ inverse.1) l h)

  -- and of one alone
  pub apart : (i j : ℕ) → i < n → j < n → i * a % n ≡ j * a % n → i ≡ j
  apart i j hi hj e =
      sym (undone a inverse.0 n inverse.1 i hi) ∙ ap (λ z. z * inverse.0 % n) e ∙ undone a inverse.0 n inverse.1 j hj
