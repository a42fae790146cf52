-- Windows as numbers: their bits, and the parities that the generators' masks give.
-- Assumes nothing.
use Rattle.std.proofs.Common.{◌≡◌, ℕ, zero, suc, ◌+◌, ◌-◌, ◌*◌, ◌/◌, ◌%◌, ◌^◌, ◌<◌, Bool, true, false, cond, not, ◌&&◌, eqb, ltb, ◌⊎◌, List, [], ◌∷◌, sym, refl, ap, ◌∙◌, subst, inl, inr, ⊎_elim, mod-lt, div-one, add-one, arith, lit<, pow_pos}
use native.Mathlib.Nat.{mod-mod, pow-succ'}
use lib.Bits.{bit_and, and_zero_l, and_zero_r}
use lib.Count.{ones, ones_step}
use lib.Pow.{mod-mod-pow}
use Rattle.std.specs.List.{AllByRecursion}
use Rattle.std.proofs.lemmas.Nat.{and_mod, and_shr, field_of, shr-shr}
use Rattle.std.proofs.lemmas.Bool.{and_parts, ltb-true, cases_lt, cases_eq}
use Rattle.plan.specs.Questions.{all_below}
use Rattle.code.specs.Numbers.{digit, num, bit_of}
use Rattle.code.specs.Coding.{first_taps, second_taps, xor, sum_at, pair}

-- the lowest bit of a number that writes one more bit
digit_low : (x : ℕ) (b : Bool) → eqb ((2 * x + digit b) % 2) 1 ≡ b
digit_low x true = let e : (2 * x + 1) % 2 ≡ 1 = omega arith in ap (λ n. eqb n 1) e
digit_low x false = let e : (2 * x + 0) % 2 ≡ 0 = omega arith in ap (λ n. eqb n 1) e

digit_high : (x : ℕ) (b : Bool) → (2 * x + digit b) / 2 ≡ x
digit_high x true = omega arith
digit_high x false = omega arith

-- bit i of the number that n bits write is the i-th of them
pub bit_num : (f : ℕ → Bool) (n t i : ℕ) → i < n → bit_of n (num f n t) i ≡ f (t + i)
bit_num f zero t i h = absurd (omega arith)
bit_num f (suc n) t i h =
    ⊎_elim
    (λ last. let e : suc n - 1 - i ≡ 0 = omega arith in let p : n ≡ i = omega arith in
    ap (λ j. eqb ((2 * num f n t + digit (f (t + n))) / 2 ^ j % 2) 1) e
    ∙ ap (λ y. eqb (y % 2) 1) (div-one _) ∙ digit_low (num f n t) (f (t + n)) ∙ ap (λ j. f (t + j)) p)
    (λ before. let lt : i < n = omega arith in let e : suc n - 1 - i ≡ 1 + (n - 1 - i) = omega arith in
    ap (λ j. eqb ((2 * num f n t + digit (f (t + n))) / 2 ^ j % 2) 1) e
    ∙ ap (λ y. eqb (y % 2) 1) (sym (shr-shr (2 * num f n t + digit (f (t + n))) 1 (n - 1 - i)))
    ∙ ap (λ y. eqb (y / 2 ^ (n - 1 - i) % 2) 1) (digit_high (num f n t) (f (t + n)))
    ∙ bit_num f n t i lt)
    (cases_eq i n)

-- two windows that agree at the taps have the same sum
pub sum_same : (w v : ℕ → Bool) (taps : List ℕ) → AllByRecursion (λ i. w i ≡ v i) taps → sum_at w taps ≡ sum_at v taps
sum_same w v [] h = refl
sum_same w v (i ∷ is) h = ap (λ b. xor b (sum_at w is)) h.0 ∙ ap (xor (v i)) (sum_same w v is h.1)

odd : ℕ → Bool
odd n = eqb (n % 2) 1

-- the sum modulo 2 of the bits of w at which the mask m of n bits has a one
masked : ℕ → ℕ → ℕ → Bool
masked zero w m = false
masked (suc n) w m = xor (odd w && odd m) (masked n (w / 2) (m / 2))

two : (n : ℕ) → (n % 2 ≡ 0) ⊎ (n % 2 ≡ 1)
two n = ⊎_elim (λ h. inl (omega arith)) (λ h. inr (omega arith)) (cases_lt (n % 2) 1)

odd_mod : (n : ℕ) → odd (n % 2) ≡ odd n
unfolding odd
odd_mod n = ap (λ x. eqb x 1) (mod-mod n 2)

odd_yes : (n : ℕ) → n % 2 ≡ 1 → odd n ≡ true
unfolding odd
odd_yes n e = ap (λ x. eqb x 1) e

odd_no : (n : ℕ) → n % 2 ≡ 0 → odd n ≡ false
unfolding odd
odd_no n e = ap (λ x. eqb x 1) e

odd_sum : (a b : ℕ) → odd (a + b) ≡ xor (odd a) (odd b)
odd_sum a b =
    ⊎_elim
    (λ p. ⊎_elim (λ q. odd_no (a + b) (omega arith) ∙ sym (λ i. xor (odd_no a p i) (odd_no b q i))) (λ q. odd_yes (a + b) (omega arith) ∙ sym (λ i. xor (odd_no a p i) (odd_yes b q i))) (two b))
    (λ p. ⊎_elim (λ q. odd_yes (a + b) (omega arith) ∙ sym (λ i. xor (odd_yes a p i) (odd_no b q i))) (λ q. odd_no (a + b) (omega arith) ∙ sym (λ i. xor (odd_yes a p i) (odd_yes b q i))) (two b))
    (two a)

odd_and : (w m : ℕ) → odd (bit_and w m) ≡ (odd w && odd m)
odd_and w m =
    let low = and_mod w m 1 in
    ⊎_elim
    (λ p. odd_no (bit_and w m) (low ∙ ap (λ x. bit_and x (m % 2)) p ∙ and_zero_l (m % 2)) ∙ sym (ap (λ b. b && odd m) (odd_no w p)))
    (λ p. ⊎_elim
    (λ q. odd_no (bit_and w m) (low ∙ (λ i. bit_and (p i) (q i))) ∙ sym (λ i. odd_yes w p i && odd_no m q i))
    (λ q. odd_yes (bit_and w m) (low ∙ (λ i. bit_and (p i) (q i))) ∙ sym (λ i. odd_yes w p i && odd_yes m q i)) (two m))
    (two w)

ones_masked : (n w m : ℕ) → m < 2 ^ n → odd (ones (bit_and w m)) ≡ masked n w m
unfolding masked odd ones
ones_masked zero w m h = let e : m ≡ 0 = omega arith in ap (λ x. odd (ones (bit_and w x))) e ∙ ap (λ x. odd (ones x)) (and_zero_r w)
ones_masked (suc n) w m h =
    let half : m / 2 < 2 ^ n = omega (arith, pow-succ' 2 n) in
    ap odd (ones_step (bit_and w m)) ∙ odd_sum (bit_and w m % 2) (ones (bit_and w m / 2))
    ∙ ap (λ b. xor b (odd (ones (bit_and w m / 2)))) (odd_mod (bit_and w m) ∙ odd_and w m)
    ∙ ap (λ x. xor (odd w && odd m) (odd (ones x))) (and_shr w m 1)
    ∙ ap (xor (odd w && odd m)) (ones_masked n (w / 2) (m / 2) half)

masked_low : (n w m : ℕ) → masked n w m ≡ masked n (w % 2 ^ n) m
unfolding masked odd
masked_low zero w m = refl
masked_low (suc n) w m =
    let low : w % 2 ^ suc n % 2 ≡ w % 2 = ap (λ x. w % x % 2) (ap (λ e. 2 ^ e) (sym (add-one n))) ∙ mod-mod-pow w n 1 in
    let high : w % 2 ^ suc n / 2 ≡ w / 2 % 2 ^ n = ap (λ x. w % x / 2) (ap (λ e. 2 ^ e) (sym (add-one n))) ∙ field_of w n 1 in
    ap (xor (odd w && odd m)) (masked_low n (w / 2) (m / 2))
    ∙ ap (λ x. xor (odd w && odd m) (masked n x (m / 2))) (sym high)
    ∙ ap (λ x. xor (eqb x 1 && odd m) (masked n (w % 2 ^ suc n / 2) (m / 2))) (sym low)

bit_low : (k w i : ℕ) → i < k → bit_of k w i ≡ bit_of k (w % 2 ^ k) i
bit_low k w i h =
    let j = k - 1 - i in
    let split : i + 1 + j ≡ k = omega arith in
    ap (λ x. eqb x 1)
    (sym (ap (λ n. w % 2 ^ n / 2 ^ j % 2) (sym split) ∙ ap (λ x. x % 2) (field_of w (i + 1) j) ∙ mod-mod-pow (w / 2 ^ j) i 1))

-- a test passes at every number below n
below : (ℕ → Bool) → ℕ → Bool
below f zero = true
below f (suc n) = f n && below f n

below_at : (f : ℕ → Bool) (n : ℕ) → below f n ≡ true → (x : ℕ) → x < n → f x ≡ true
unfolding below
below_at f zero t x h = absurd (omega arith)
below_at f (suc n) t x h =
    let p = and_parts (f n) (below f n) t in
    ⊎_elim (λ lt. below_at f n p.1 x lt) (λ ge. let e : n ≡ x = omega arith in subst (λ y. f y ≡ true) e p.0) (cases_lt x n)

same : Bool → Bool → Bool
same a b = not (xor a b)

same_true : (a b : Bool) → same a b ≡ true → a ≡ b
unfolding same
same_true true true e = refl
same_true true false e = sym e
same_true false true e = e
same_true false false e = refl

-- a generator's mask gives the sum at its taps: tried at each window of n bits
agrees : ℕ → List ℕ → ℕ → ℕ → Bool
agrees n taps mask w = same (masked n w mask) (sum_at (bit_of n w) taps)

low_taps : (n w : ℕ) (taps : List ℕ) → all_below n taps ≡ true → AllByRecursion (λ i. bit_of n (w % 2 ^ n) i ≡ bit_of n w i) taps
low_taps n w [] h = tt
low_taps n w (i ∷ is) h = let p = and_parts (ltb i n) (all_below n is) h in (sym (bit_low n w i (ltb-true i n p.0)), low_taps n w is p.1)

mask_sum : (n : ℕ) (taps : List ℕ) (mask : ℕ) → mask < 2 ^ n → all_below n taps ≡ true → below (agrees n taps mask) (2 ^ n) ≡ true → (w : ℕ) → odd (ones (bit_and w mask)) ≡ sum_at (bit_of n w) taps
unfolding agrees
mask_sum n taps mask lt in_window t w =
    ones_masked n w mask lt ∙ masked_low n w mask
    ∙ same_true _ _ (below_at (agrees n taps mask) (2 ^ n) t (w % 2 ^ n) (mod-lt w (pow_pos n)))
    ∙ sum_same (bit_of n (w % 2 ^ n)) (bit_of n w) taps (low_taps n w taps in_window)

-- the four masks give the sums at the four lists of taps
first_7 : (w : ℕ) → eqb (ones (bit_and w 109) % 2) 1 ≡ sum_at (bit_of 7 w) (first_taps 7)
unfolding odd below agrees same masked
first_7 w = mask_sum 7 (first_taps 7) 109 (lit< tt) refl refl w

second_7 : (w : ℕ) → eqb (ones (bit_and w 79) % 2) 1 ≡ sum_at (bit_of 7 w) (second_taps 7)
unfolding odd below agrees same masked
second_7 w = mask_sum 7 (second_taps 7) 79 (lit< tt) refl refl w

first_9 : (w : ℕ) → eqb (ones (bit_and w 285) % 2) 1 ≡ sum_at (bit_of 9 w) (first_taps 9)
unfolding odd below agrees same masked
first_9 w = mask_sum 9 (first_taps 9) 285 (lit< tt) refl refl w

second_9 : (w : ℕ) → eqb (ones (bit_and w 431) % 2) 1 ≡ sum_at (bit_of 9 w) (second_taps 9)
unfolding odd below agrees same masked
second_9 w = mask_sum 9 (second_taps 9) 431 (lit< tt) refl refl w

-- the parities by a code's two generators are the pair of the window
pub pair_by_masks : (k w : ℕ) (masks : ℕ × ℕ) (a b : Bool) → (k ≡ 7) ⊎ (k ≡ 9) → masks ≡ cond (eqb k 7) (109, 79) (285, 431)
    → a ≡ eqb (ones (bit_and w masks.0) % 2) 1 → b ≡ eqb (ones (bit_and w masks.1) % 2) 1 → ◌≡◌ {A = Bool × Bool} (a, b) (pair k (bit_of k w))
pair_by_masks k w masks a b h m p q =
    ⊎_elim
    (λ e. let known : masks ≡ (109, 79) = m ∙ ap (λ n. cond (eqb n 7) (109, 79) (285, 431)) e in
    (λ i. ((p ∙ ap (λ n. eqb (ones (bit_and w n.0) % 2) 1) known ∙ first_7 w) i, (q ∙ ap (λ n. eqb (ones (bit_and w n.1) % 2) 1) known ∙ second_7 w) i))
    ∙ ap (λ n. pair n (bit_of n w)) (sym e))
    (λ e. let known : masks ≡ (285, 431) = m ∙ ap (λ n. cond (eqb n 7) (109, 79) (285, 431)) e in
    (λ i. ((p ∙ ap (λ n. eqb (ones (bit_and w n.0) % 2) 1) known ∙ first_9 w) i, (q ∙ ap (λ n. eqb (ones (bit_and w n.1) % 2) 1) known ∙ second_9 w) i))
    ∙ ap (λ n. pair n (bit_of n w)) (sym e))
    h

-- the pair of a window's number is the pair of its bits
same_taps : (f : ℕ → Bool) (n t : ℕ) (taps : List ℕ) → all_below n taps ≡ true → AllByRecursion (λ i. bit_of n (num f n t) i ≡ f (t + i)) taps
same_taps f n t [] h = tt
same_taps f n t (i ∷ is) h = let p = and_parts (ltb i n) (all_below n is) h in (bit_num f n t i (ltb-true i n p.0), same_taps f n t is p.1)

pair_by_taps : (k : ℕ) (f : ℕ → Bool) (t : ℕ) → all_below k (first_taps k) ≡ true → all_below k (second_taps k) ≡ true → pair k (bit_of k (num f k t)) ≡ pair k (λ i. f (t + i))
pair_by_taps k f t a b =
    λ i. (
      sum_same (bit_of k (num f k t)) (λ j. f (t + j)) (first_taps k) (same_taps f k t (first_taps k) a) i,
      sum_same (bit_of k (num f k t)) (λ j. f (t + j)) (second_taps k) (same_taps f k t (second_taps k) b) i,
    )

pub pair_num : (k : ℕ) (f : ℕ → Bool) (t : ℕ) → (k ≡ 7) ⊎ (k ≡ 9) → pair k (bit_of k (num f k t)) ≡ pair k (λ i. f (t + i))
pair_num k f t h =
    ⊎_elim (λ e. pair_by_taps k f t (rw e refl) (rw e refl)) (λ e. pair_by_taps k f t (rw e refl) (rw e refl)) h
