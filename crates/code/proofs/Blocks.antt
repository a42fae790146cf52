-- A block's bits, and the windows that slide over them.
-- Assumes nothing.
use Rattle.std.proofs.Common.{◌≡◌, ℕ, zero, suc, ◌+◌, ◌-◌, ◌*◌, ◌%◌, ◌^◌, ◌<◌, ◌≤◌, Bool, true, false, eqb, ltb, List, [], ◌∷◌, length, map, get_or, take, drop, sym, refl, ap, ◌∙◌, add-zero, zero-add, mod-eq_of_lt, mul_left_comm, add-one, add-mul, mul_comm, mul_assoc, arith, pow_mono}
use native.Mathlib.Nat.{pow-succ', add-mod_right}
use Rattle.std.proofs.lemmas.Nat.{mod_low}
use Rattle.std.proofs.lemmas.List.{get_or-take, get_or-drop}
use Rattle.std.proofs.lemmas.List.FromFn.{length-map-range_with_len, get_or-map-range_with_len}
use Rattle.std.proofs.lemmas.Bool.{and_parts, ltb-true, eqb-true}
use Rattle.std.specs.List.{fold, range_with_len}
use Rattle.plan.specs.Questions.{all_below}
use Rattle.plan.specs.Scheme.{Scheme}
use Rattle.code.specs.Coding.{is_block}
use Rattle.code.specs.Numbers.{digit, num, read}

-- an entry of a list whose entries are all below a bound
pub below_get_or : (bound : ℕ) (xs : List ℕ) (i : ℕ) → all_below bound xs ≡ true → i < length xs → get_or xs i 0 < bound
below_get_or bound [] i t h = absurd (omega arith)
below_get_or bound (x ∷ xs) zero t h = ltb-true x bound (and_parts (ltb x bound) (all_below bound xs) t).0
below_get_or bound (x ∷ xs) (suc i) t h = below_get_or bound xs i (and_parts (ltb x bound) (all_below bound xs) t).1 (omega arith)

pub digit_le : (b : Bool) → digit b ≤ 1
digit_le true = omega arith
digit_le false = omega arith

-- n bits write a number below 2 to the power n
pub num_below : (f : ℕ → Bool) (n t : ℕ) → num f n t < 2 ^ n
num_below f zero t = omega arith
num_below f (suc n) t = omega (arith, num_below f n t, digit_le (f (t + n)), pow-succ' 2 n)

-- the first bit stands highest
pub num_high : (f : ℕ → Bool) (n t : ℕ) → num f (suc n) t ≡ digit (f t) * 2 ^ n + num f n (suc t)
num_high f zero t = omega (arith, ap (λ i. digit (f i)) (add-zero t))
num_high f (suc n) t =
    let place : t + suc n ≡ suc t + n = omega arith in
    let twice : digit (f t) * 2 ^ suc n ≡ 2 * (digit (f t) * 2 ^ n) = ap (λ x. digit (f t) * x) (pow-succ' 2 n) ∙ mul_left_comm (digit (f t)) 2 (2 ^ n) in
    omega (arith, num_high f n t, twice, ap (λ i. digit (f i)) place)

-- without its first bit, a window is the next state
pub num_low : (f : ℕ → Bool) (n t : ℕ) → num f (suc n) t % 2 ^ n ≡ num f n (suc t)
num_low f n t = ap (λ x. x % 2 ^ n) (num_high f n t) ∙ mod_low (digit (f t)) n (num f n (suc t)) (num_below f n (suc t))

-- one wrap takes an index below twice the size into the block
pub wrapped : (i size : ℕ) → size ≤ i → i < 2 * size → i - size ≡ i % size
wrapped i size low high =
    let back : i - size + size ≡ i = omega arith in
    sym (ap (λ x. x % size) (sym back) ∙ add-mod_right (i - size) size ∙ mod-eq_of_lt (omega arith))

pub num_small : (f : ℕ → Bool) (n t : ℕ) → n ≤ 8 → num f n t < 256
num_small f n t h = omega (arith, num_below f n t, pow_mono h)

-- one bit more
pub num_more : (f : ℕ → Bool) (n t x y : ℕ) (b : Bool) → x ≡ num f n t → b ≡ f (t + n) → y ≡ 2 * x + digit b → y ≡ num f (n + 1) t
num_more f n t x y b p q r = r ∙ (λ i. 2 * p i + digit (q i)) ∙ ap (λ m. num f m t) (sym (add-one n))

-- bits that are the same at two places write the same number
pub num_same : (f g : ℕ → Bool) (n t u : ℕ) → ((i : ℕ) → i < n → f (t + i) ≡ g (u + i)) → num f n t ≡ num g n u
num_same f g zero t u h = refl
num_same f g (suc n) t u h = λ i. 2 * num_same f g n t u (λ j lt. h j (omega arith)) i + digit (h n (omega arith) i)

-- a run of a list writes the number that the list writes there
pub num_run : (xs : List Bool) (first n : ℕ) → num (read (take n (drop first xs))) n 0 ≡ num (read xs) n first
num_run xs first n =
    num_same (read (take n (drop first xs))) (read xs) n 0 first (λ i h. ap (read (take n (drop first xs))) (zero-add i) ∙ get_or-take n (drop first xs) i false h ∙ get_or-drop first xs i false)

-- one bit more at the lowest place, as 16 bits hold it
abbrev pub appended : ℕ → Bool → ℕ
appended n b = 2 * n % 65536 + digit b

pub appended_small : (n k : ℕ) (b : Bool) → n < 2 ^ k → k < 16 → (appended n b ≡ 2 * n + digit b) × (appended n b < 2 ^ (k + 1))
appended_small n k b h low =
    let twice : 2 ^ (k + 1) ≡ 2 * 2 ^ k = ap (λ m. 2 ^ m) (add-one k) ∙ pow-succ' 2 k in
    let few : k ≤ 15 = omega arith in
    let fits : 2 ^ k ≤ 2 ^ 15 = pow_mono few in
    let same : 2 * n % 65536 ≡ 2 * n = mod-eq_of_lt (omega arith) in
    (ap (λ m. m + digit b) same, omega (arith, digit_le b))

-- appended one after the other, bits write their number below what was there
appended_all : (xs : List Bool) (n k : ℕ) → n < 2 ^ k → k + length xs ≤ 16 → fold appended n xs ≡ n * 2 ^ length xs + num (read xs) (length xs) 0
appended_all [] n k h fits = omega arith
appended_all (x ∷ xs) n k h fits =
    let one = appended_small n k x h (omega arith) in
    let m = length xs in
    let rest : num (read (x ∷ xs)) m 1 ≡ num (read xs) m 0 = num_same (read (x ∷ xs)) (read xs) m 1 0 (λ i lt. let next : 1 + i ≡ suc (0 + i) = omega arith in ap (read (x ∷ xs)) next) in
    let high : (2 * n + digit x) * 2 ^ m ≡ n * 2 ^ suc m + digit x * 2 ^ m =
    add-mul (2 * n) (digit x) (2 ^ m) ∙ ap (λ y. y + digit x * 2 ^ m) (ap (λ y. y * 2 ^ m) (mul_comm 2 n) ∙ mul_assoc n 2 (2 ^ m) ∙ ap (λ y. n * y) (sym (pow-succ' 2 m))) in
    appended_all xs (appended n x) (k + 1) one.1 (omega arith)
    ∙ ap (λ y. y * 2 ^ m + num (read xs) m 0) one.0
    ∙ omega (arith, high, rest, num_high (read (x ∷ xs)) m 0)

-- bits that are appended one after the other write their number
pub appended_num : (xs : List Bool) → length xs ≤ 16 → fold appended 0 xs ≡ num (read xs) (length xs) 0
appended_num xs few = appended_all xs 0 0 (omega arith) (omega (arith, few)) ∙ omega arith

-- and so do the bits of consecutive places
pub appended_range : (f : ℕ → Bool) (n t : ℕ) → n ≤ 16 → fold appended 0 (map f (range_with_len t n)) ≡ num f n t
appended_range f n t few =
    let bits = map f (range_with_len t n) in
    let long = length-map-range_with_len f t n in
    appended_num bits (omega (arith, long, few)) ∙ ap (λ m. num (read bits) m 0) long
    ∙ num_same (read bits) f n 0 t (λ i lt. ap (read bits) (zero-add i) ∙ get_or-map-range_with_len f t n i (t + i) false lt refl)

-- a block has as many bytes as its plan says
pub block_long : (s : Scheme) (block : List ℕ) → is_block s block ≡ true → length block ≡ s.block
block_long s block is = eqb-true (length block) s.block (and_parts (eqb (length block) s.block) (all_below 2 block) is).0
