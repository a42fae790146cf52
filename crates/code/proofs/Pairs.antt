-- One step of the encoder: the window, its pair, the two places of the code word, the next state.
-- Assumes nothing.
use Rattle.std.proofs.Common.{◌≡◌, ℕ, suc, ◌+◌, ◌-◌, ◌*◌, ◌/◌, ◌%◌, ◌^◌, Bool, cond, eqb, List, set, sym, ap, ◌∙◌, subst, add-one, arith}
use native.Mathlib.Nat.{mod-add-mod}
use lib.Bits.{bit_and}
use Rattle.std.proofs.lemmas.Nat.{and_mask}
use Rattle.plan.specs.Scheme.{Scheme}
use Rattle.plan.proofs.Facts.{Facts}
use Rattle.code.specs.Coding.{around, coded, mother, pair}
use Rattle.code.specs.Laws.{TailBiting}
use Rattle.code.specs.Numbers.{digit, num, bit_of}
use Rattle.code.proofs.Blocks.{num_low, num_more}
use Rattle.code.proofs.Filled.{Filled, filled_more}
use Rattle.code.proofs.Windows.{pair_num}

-- the two places of pair t in the code word
pub mother_first : (s : Scheme) (u : ℕ → Bool) (t : ℕ) → mother s u (2 * t) ≡ (coded s u t).0
unfolding mother
mother_first s u t =
    let even : (2 * t) % 2 ≡ 0 = omega arith in
    let half : 2 * t / 2 ≡ t = omega arith in
    ap (λ r. cond (eqb r 0) (coded s u (2 * t / 2)).0 (coded s u (2 * t / 2)).1) even ∙ ap (λ x. (coded s u x).0) half

pub mother_second : (s : Scheme) (u : ℕ → Bool) (t : ℕ) → mother s u (2 * t + 1) ≡ (coded s u t).1
unfolding mother
mother_second s u t =
    let odd : (2 * t + 1) % 2 ≡ 1 = omega arith in
    let half : (2 * t + 1) / 2 ≡ t = omega arith in
    ap (λ r. cond (eqb r 0) (coded s u ((2 * t + 1) / 2)).0 (coded s u ((2 * t + 1) / 2)).1) odd ∙ ap (λ x. (coded s u x).1) half

-- two places more are filled
pub filled_pair : {X : Type 0} (f : ℕ → X) (t : ℕ) (old new : List X) (a b : X) → Filled f (2 * t) old new → a ≡ f (2 * t) → b ≡ f (2 * t + 1) → Filled f (2 * (t + 1)) old (set (set new (2 * t) a) (2 * t + 1) b)
filled_pair f t old new a b h p q =
    let e : 2 * t + 1 + 1 ≡ 2 * (t + 1) = omega arith in
    subst (λ n. Filled f n old (set (set new (2 * t) a) (2 * t + 1) b)) e
    (filled_more f (2 * t + 1) old (set new (2 * t) a) b (filled_more f (2 * t) old new a h p) q)

module _ (s : Scheme) (known : Facts s) (u : ℕ → Bool) where
  back : s.constraint - 1 + 1 ≡ s.constraint
  back = omega (arith, known.constraint_low)

  -- a state and the newest bit are the window
  pub window_is : (t state x : ℕ) (bit : Bool) → state ≡ num (around s u) (s.constraint - 1) t → bit ≡ around s u (t + (s.constraint - 1)) → x ≡ 2 * state + digit bit → x ≡ num (around s u) s.constraint t
  window_is t state x bit p q r = num_more (around s u) (s.constraint - 1) t state x bit p q r ∙ ap (λ n. num (around s u) n t) back

  -- the window without its oldest bit is the next state
  pub state_next : (t x low : ℕ) → x ≡ num (around s u) s.constraint t → low ≡ 2 ^ (s.constraint - 1) - 1 → bit_and x low ≡ num (around s u) (s.constraint - 1) (t + 1)
  state_next t x low p q =
      let f = around s u in
      let m = s.constraint - 1 in
      let whole : s.constraint ≡ suc m = omega (arith, known.constraint_low) in
      (λ i. bit_and (p i) (q i)) ∙ and_mask (num f s.constraint t) m ∙ ap (λ n. num f n t % 2 ^ m) whole ∙ num_low f m t
      ∙ ap (λ n. num f m n) (sym (add-one t))

  -- its pair is that of window t
  pub pair_is : (t x : ℕ) (p : Bool × Bool) → x ≡ num (around s u) s.constraint t → p ≡ pair s.constraint (bit_of s.constraint x) → p ≡ coded s u t
  pair_is t x p e q =
      q ∙ ap (λ n. pair s.constraint (bit_of s.constraint n)) e ∙ pair_num s.constraint (around s u) t known.constraint

-- rotating the block rotates the code word
pub tail_biting : (s : Scheme) → TailBiting s
tail_biting s u r t =
    let same : (i : ℕ) → u (((t + i) % s.block + r) % s.block) ≡ u ((t + r + i) % s.block) =
    λ i. let order : t + i + r ≡ t + r + i = omega arith in ap u (mod-add-mod (t + i) s.block r ∙ ap (λ j. j % s.block) order) in
    λ x. pair s.constraint (λ i. same i x)
