-- The pairs of eight windows that follow each other: the first one's, turned by what the last three bits add.
-- Assumes nothing.
use Rattle.std.proofs.Common.{◌≡◌, ℕ, zero, suc, ◌+◌, ◌-◌, ◌*◌, ◌/◌, ◌%◌, ◌^◌, ◌<◌, ◌≤◌, Bool, true, false, eqb, ◌⊎◌, List, [], ◌∷◌, length, get_or, ℤ, sym, refl, ap, ◌∙◌, ⊎_elim, div-one, arith}
use native.Mathlib.Nat.{zero-div}
use Rattle.std.proofs.lemmas.List.{get_or_default}
use Rattle.std.proofs.lemmas.Nat.{shr-shr}
use Rattle.std.proofs.lemmas.Bool.{cases_lt}
use Rattle.code.specs.Numbers.{digit, bit_of}
use Rattle.code.specs.Coding.{xor, sum_at, first_taps, second_taps, pair}
use Rattle.score.specs.Scale.{Scale}
use Rattle.score.specs.Blocks.{absorbed, absorbed_both}
use Rattle.trellis.specs.Survivors.{window, before, way}
use Rattle.search.specs.Searching.{steps_with}

xor_false : (b : Bool) → xor b false ≡ b
xor_false true = refl
xor_false false = refl

-- a low bit is the last three bits', a high one the rest's
bit_low : (n q i : ℕ) → n < 3 → i < 8 → (8 * q + i) / 2 ^ n % 2 ≡ i / 2 ^ n % 2
bit_low zero q i h l = omega (arith, div-one (8 * q + i), div-one i)
bit_low (suc zero) q i h l = omega arith
bit_low (suc (suc zero)) q i h l = omega arith
bit_low (suc (suc (suc n))) q i h l = absurd (omega arith)

eights : (n x q : ℕ) → 3 ≤ n → x / 8 ≡ q → x / 2 ^ n ≡ q / 2 ^ (n - 3)
eights n x q h e = let s : 3 + (n - 3) ≡ n = omega arith in ap (λ k. x / 2 ^ k) (sym s) ∙ sym (shr-shr x 3 (n - 3)) ∙ ap (λ y. y / 2 ^ (n - 3)) e

bit_apart : (n q i : ℕ) → i < 8 → eqb ((8 * q + i) / 2 ^ n % 2) 1 ≡ xor (eqb (i / 2 ^ n % 2) 1) (eqb (8 * q / 2 ^ n % 2) 1)
bit_apart n q i l = ⊎_elim
    (λ low. let none : 8 * q / 2 ^ n % 2 ≡ 0 = ap (λ x. x / 2 ^ n % 2) (omega arith) ∙ bit_low n q 0 low (omega arith) ∙ nothing n low in
    ap (λ x. eqb x 1) (bit_low n q i low l) ∙ sym (ap (λ x. xor (eqb (i / 2 ^ n % 2) 1) (eqb x 1)) none ∙ xor_false _))
    (λ high. let none : i / 2 ^ n ≡ 0 = eights n i 0 (omega arith) (omega arith) ∙ zeros (n - 3) in
    ap (λ x. eqb (x % 2) 1) (eights n (8 * q + i) q (omega arith) (omega arith) ∙ sym (eights n (8 * q) q (omega arith) (omega arith)))
    ∙ sym (ap (λ x. xor (eqb (x % 2) 1) (eqb (8 * q / 2 ^ n % 2) 1)) none))
    (cases_lt n 3)
  where
    nothing : (n : ℕ) → n < 3 → 0 / 2 ^ n % 2 ≡ 0
    nothing zero h = refl
    nothing (suc zero) h = refl
    nothing (suc (suc zero)) h = refl
    nothing (suc (suc (suc n))) h = absurd (omega arith)

    zeros : (n : ℕ) → 0 / 2 ^ n ≡ 0
    zeros n = zero-div (2 ^ n)

xor_swap : (a b c d : Bool) → xor (xor a b) (xor c d) ≡ xor (xor a c) (xor b d)
xor_swap true true true d = refl
xor_swap true true false true = refl
xor_swap true true false false = refl
xor_swap true false true true = refl
xor_swap true false true false = refl
xor_swap true false false d = refl
xor_swap false true true true = refl
xor_swap false true true false = refl
xor_swap false true false d = refl
xor_swap false false c d = refl

sum_apart : (t u : ℕ → Bool) (taps : List ℕ) → sum_at (λ j. xor (t j) (u j)) taps ≡ xor (sum_at t taps) (sum_at u taps)
sum_apart t u [] = refl
sum_apart t u (j ∷ js) = ap (xor (xor (t j) (u j))) (sum_apart t u js) ∙ xor_swap (t j) (u j) (sum_at t js) (sum_at u js)

sum_turned : (k q i : ℕ) (taps : List ℕ) → i < 8 → sum_at (bit_of k (8 * q + i)) taps ≡ xor (sum_at (bit_of k i) taps) (sum_at (bit_of k (8 * q)) taps)
sum_turned k q i taps l = ap (λ w. sum_at w taps) (λ p j. bit_apart (k - 1 - j) q i l p) ∙ sum_apart (bit_of k i) (bit_of k (8 * q)) taps

-- the pair of window 8 * q + i is that of window 8 * q, turned by that of i
pub pair_turned : (k q i : ℕ) → i < 8 → pair k (bit_of k (8 * q + i)) ≡ (xor (pair k (bit_of k i)).0 (pair k (bit_of k (8 * q))).0, xor (pair k (bit_of k i)).1 (pair k (bit_of k (8 * q))).1)
pair_turned k q i l = λ p. (sum_turned k q i (first_taps k) l p, sum_turned k q i (second_taps k) l p)

-- what the last three bits add to a pair, for both codes
abbrev pub turn : ℕ → Bool × Bool
turn zero = (false, false)
turn (suc zero) = (true, true)
turn (suc (suc zero)) = (false, true)
turn (suc (suc (suc zero))) = (true, false)
turn (suc (suc (suc (suc zero)))) = (true, true)
turn (suc (suc (suc (suc (suc zero))))) = (false, false)
turn (suc (suc (suc (suc (suc (suc zero)))))) = (true, false)
turn (suc (suc (suc (suc (suc (suc (suc i))))))) = (false, true)

-- what is so of each of eight numbers
pub each_of_eight : (P : ℕ → Type 0) → P 0 → P 1 → P 2 → P 3 → P 4 → P 5 → P 6 → P 7 → (i : ℕ) → i < 8 → P i
each_of_eight P a b c d e f g h zero l = a
each_of_eight P a b c d e f g h (suc zero) l = b
each_of_eight P a b c d e f g h (suc (suc zero)) l = c
each_of_eight P a b c d e f g h (suc (suc (suc zero))) l = d
each_of_eight P a b c d e f g h (suc (suc (suc (suc zero)))) l = e
each_of_eight P a b c d e f g h (suc (suc (suc (suc (suc zero))))) l = f
each_of_eight P a b c d e f g h (suc (suc (suc (suc (suc (suc zero)))))) l = g
each_of_eight P a b c d e f g h (suc (suc (suc (suc (suc (suc (suc zero))))))) l = h
each_of_eight P a b c d e f g h (suc (suc (suc (suc (suc (suc (suc (suc i)))))))) l = absurd (omega arith)

pub turn_is : (k i : ℕ) → (k ≡ 7) ⊎ (k ≡ 9) → i < 8 → pair k (bit_of k i) ≡ turn i
turn_is k i h l = ⊎_elim
    (λ e. ap (λ n. pair n (bit_of n i)) e ∙ each_of_eight (λ i. pair 7 (bit_of 7 i) ≡ turn i) refl refl refl refl refl refl refl refl i l)
    (λ e. ap (λ n. pair n (bit_of n i)) e ∙ each_of_eight (λ i. pair 9 (bit_of 9 i) ≡ turn i) refl refl refl refl refl refl refl refl i l)
    h

module _ {S : Type 0} (k : Scale S) (constraint m : ℕ) (both : List ℤ × List ℤ) (column : ℕ → S) (length_is : (constraint ≡ 7) ⊎ (constraint ≡ 9)) where
  window_is : (row group i : ℕ) (b : Bool) → 8 * row ≡ 2 ^ m → window m b (8 * group + i) ≡ 8 * (digit b * row + group) + i
  window_is row group i true e = omega arith
  window_is row group i false e = omega arith

  before_is : (row group i : ℕ) (b : Bool) → 8 * row ≡ 2 ^ m → before m b (8 * group + i) ≡ before m b (8 * group) + i / 2
  before_is row group i true e = omega arith
  before_is row group i false e = omega arith

  -- a way into one of eight states: the pair is turned, the score is one of four
  pub way_turned : (row group i : ℕ) (b : Bool) (p bits : Bool × Bool) (score : S) → 8 * row ≡ 2 ^ m → i < 8 →
      p ≡ pair constraint (bit_of constraint (window m b (8 * group))) → bits ≡ (xor (turn i).0 p.0, xor (turn i).1 p.1) → score ≡ column (before m b (8 * group) + i / 2) →
      absorbed_both k both bits score ≡ way (steps_with k constraint both) m 0 column (8 * group + i) b
  way_turned row group i b p bits score e l q t r =
      let w = 8 * (digit b * row + group) in
      let first : window m b (8 * group) ≡ w = ap (window m b) (omega arith) ∙ window_is row group 0 b e ∙ omega arith in
      let whole : bits ≡ pair constraint (bit_of constraint (window m b (8 * group + i))) =
      t ∙ ap (λ p. (xor (turn i).0 p.0, xor (turn i).1 p.1)) (q ∙ ap (λ n. pair constraint (bit_of constraint n)) first)
      ∙ sym (ap (λ x. (xor x.0 (pair constraint (bit_of constraint w)).0, xor x.1 (pair constraint (bit_of constraint w)).1)) (turn_is constraint i length_is l))
      ∙ sym (pair_turned constraint (digit b * row + group) i l)
      ∙ sym (ap (λ n. pair constraint (bit_of constraint n)) (window_is row group i b e)) in
      ap (λ x. absorbed_both k both x score) whole
      ∙ ap (absorbed_both k both (pair constraint (bit_of constraint (window m b (8 * group + i))))) (r ∙ ap column (sym (before_is row group i b e)))

  -- the same where the values of both bits are absorbed in turn
  pub way_absorbed : (row group i : ℕ) (b : Bool) (p : Bool × Bool) (b0 b1 : Bool) (x y z : S) (vs ws : List ℤ) → 8 * row ≡ 2 ^ m → i < 8 →
      p ≡ pair constraint (bit_of constraint (window m b (8 * group))) → b0 ≡ xor (turn i).0 p.0 → b1 ≡ xor (turn i).1 p.1 → x ≡ column (before m b (8 * group) + i / 2) →
      vs ≡ both.0 → ws ≡ both.1 → y ≡ absorbed k vs b0 x → z ≡ absorbed k ws b1 y → z ≡ way (steps_with k constraint both) m 0 column (8 * group + i) b
  way_absorbed row group i b p b0 b1 x y z vs ws e l q t0 t1 r f g h j =
      j ∙ ap (absorbed k ws b1) h ∙ ap (λ n. absorbed k n b1 (absorbed k vs b0 x)) g ∙ ap (λ n. absorbed k both.1 b1 (absorbed k n b0 x)) f
      ∙ way_turned row group i b p (b0, b1) x e l q (λ n. (t0 n, t1 n)) r

-- four scores before the step are in the column
pub before_room : (m group j : ℕ) (b : Bool) → 8 * group + 8 ≤ 2 ^ m → j < 4 → before m b (8 * group) + j < 2 ^ m
before_room m group j true h l = omega arith
before_room m group j false h l = omega arith

-- an item that there is, whatever is read past the end
pub same_item : {S : Type 0} (xs : List S) (i at n : ℕ) (d e : S) → i ≡ at → i < n → n ≤ length xs → get_or xs i d ≡ get_or xs at e
same_item xs i at n d e p l h = get_or_default xs i d e (omega arith) ∙ ap (λ j. get_or xs j e) p
