-- How rates are written, and the steps below the rate 1.
-- Assumes nothing.
use Rattle.std.proofs.Common.{◌≡◌, ℕ, zero, suc, ◌+◌, ◌*◌, ◌/◌, ◌<◌, ◌∷◌, eqb, subst, arith, length, filter, map, cond, refl, ap, sym, ◌∙◌, add-one}
use Rattle.std.proofs.Math.Nat.{div-mul-le_self, lt-div-mul-add}
use Rattle.std.proofs.lemmas.Bool.{cond-false, ne_eqb}
use Rattle.std.proofs.lemmas.List.Folds.{fold-map}
use Rattle.std.proofs.lemmas.List.Sums.{length-filter}
use Rattle.std.specs.Float.{float_one}
use Rattle.std.specs.Float.Ieee.{Float, binary64, mul, le, of_bits}
use Rattle.std.specs.List.{range_with_len, scan}
use Rattle.std.specs.Prelude.{count_by}
use Rattle.errors.specs.declared.Count.{Count}
use Rattle.curve.specs.Pictures.{step, stepped_down, steps_below}
use Rattle.curve.specs.Plots.{hundred_thousandths, IsNearest}

pub one_by_bits : of_bits binary64 0x3ff0000000000000 ≡ float_one
unfolding of_bits
one_by_bits = refl

-- the rate one step below
abbrev pub lower : Float → ℕ → Float
lower at _ = mul binary64 at step

-- the rates of n steps
lowered : (i k n : ℕ) → scan lower lower (stepped_down k) (range_with_len i n) ≡ map stepped_down (range_with_len (suc k) n)
lowered i k zero = refl
lowered i k (suc n) =
    let next : suc k + 1 ≡ suc (suc k) = add-one (suc k) in
    ap (λ l. stepped_down (suc k) ∷ l) (lowered (i + 1) (suc k) n ∙ ap (λ m. map stepped_down (range_with_len m n)) (sym next))

counted : (rate : Float) (n : ℕ) → length (filter (λ at. le rate at) (scan lower lower float_one (range_with_len 0 n)))
    ≡ count_by (λ k. le rate (stepped_down k)) (range_with_len 1 n)
counted rate n =
    ap (λ l. length (filter (λ at. le rate at) l)) (lowered 0 0 n)
    ∙ length-filter (λ at. le rate at) (map stepped_down (range_with_len 1 n))
    ∙ fold-map (λ (a : ℕ) at. a + cond (le rate at) 1 0) stepped_down 0 (range_with_len 1 n)

pub steps_counted : (rate : Float) → length (filter (λ at. le rate at) (scan lower lower float_one (range_with_len 0 100))) ≡ steps_below rate
unfolding steps_below
steps_counted rate = counted rate 100

-- what is written is nearest
pub written_nearest : (c : Count) → 0 < c.bits → IsNearest c.bit_errors c.bits (hundred_thousandths c)
written_nearest c some =
    let n = c.bit_errors * 200000 + c.bits in
    let twice : 0 < c.bits * 2 = omega (arith, some) in
    let same : hundred_thousandths c ≡ n / (c.bits * 2) = cond-false (eqb c.bits 0) _ _ (ne_eqb c.bits 0 (λ none. omega (arith, none, some))) in
    subst (IsNearest c.bit_errors c.bits) (sym same) (record { low = div-mul-le_self n (c.bits * 2); high = lt-div-mul-add twice })
