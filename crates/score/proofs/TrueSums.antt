-- Total is the true sum as long as the greatest number is not reached.
-- Assumes nothing.
use Rattle.std.proofs.Common.{◌≡◌, ℕ, zero, suc, ◌+◌, ◌-◌, ◌*◌, ◌^◌, ◌≤◌, Bool, cond, leb, List, [], ◌∷◌, length, ℤ, nat_abs, sym, refl, ◌∙◌, ⊎_elim, arith}
use Rattle.std.specs.List.{AllByRecursion}
use Rattle.std.proofs.lemmas.Bool.{cond_both, cond-true, cond-false, cases_Bool, leb-true, le-leb}
use Rattle.plan.specs.Scheme.{sent_length}
use Rattle.plan.proofs.Facts.{facts}
use Rattle.code.specs.Sending.{location}
use Rattle.score.proofs.Covered.{takes_each_once}
use Rattle.score.proofs.SumsBelow.{sum_same, sum_none}
use Rattle.score.specs.Values.{contradicted, weight}
use Rattle.score.specs.Kinds.{added, total_scale}
use Rattle.score.specs.Sums.{extended_by, true_sum, sum_of, weighs, heard, sum_below, TotalIsTrueSum, TotalOfBlock}

weight_at_most : (v : ℤ) (bit : Bool) (m : ℕ) → nat_abs v ≤ m → weight v bit ≤ m
weight_at_most v bit m h = cond_both (contradicted v bit) _ _ (λ x. x ≤ m) (λ _. h) (λ _. omega arith)

sum_at_most : (ps : List (ℤ × Bool)) → AllByRecursion (λ p. nat_abs p.0 ≤ 32767) ps → true_sum ps ≤ 32767 * length ps
sum_at_most [] h = omega arith
sum_at_most (p ∷ ps) h = let w = weight_at_most p.0 p.1 32767 h.0 in let r = sum_at_most ps h.1 in omega arith

sum_onto : (ps : List (ℤ × Bool)) (a : ℕ) → a + true_sum ps ≤ 2 ^ 64 - 1 → extended_by total_scale ps a ≡ a + true_sum ps
sum_onto [] a h = omega arith
sum_onto (p ∷ ps) a h =
    let e : added a (weight p.0 p.1) ≡ a + weight p.0 p.1 = omega arith in
    rw e (sum_onto ps (a + weight p.0 p.1) (omega arith) ∙ omega arith)

pub total_is_true_sum : TotalIsTrueSum
total_is_true_sum ps h a = let m = sum_at_most ps a in (sum_onto ps 0 (omega arith) ∙ omega arith, omega arith)

-- a list counts its members
count_of : (ps : List (ℤ × Bool)) → sum_of (λ _. 1) ps ≡ length ps
count_of [] = refl
count_of (p ∷ ps) = let r = count_of ps in omega arith

count_below : (n : ℕ) → sum_below (λ _. 1) n ≡ n
count_below zero = refl
count_below (suc n) = let r = count_below n in omega arith

-- 1 for a value that is too great
abbrev great : ℤ × Bool → ℕ
great p = cond (leb (nat_abs p.0) 32767) 0 1

small_value : (p : ℤ × Bool) → great p ≡ 0 → nat_abs p.0 ≤ 32767
small_value p e = ⊎_elim (λ t. leb-true _ 32767 t) (λ t. absurd (omega (arith, sym e ∙ cond-false _ 0 1 t))) (cases_Bool (leb (nat_abs p.0) 32767))

none_great : (ps : List (ℤ × Bool)) → sum_of great ps ≡ 0 → AllByRecursion (λ p. nat_abs p.0 ≤ 32767) ps
none_great [] h = tt
none_great (p ∷ ps) h = (small_value p (omega arith), none_great ps (omega arith))

pub total_of_block : TotalOfBlock
total_of_block s values u accepted small =
    let f = facts s accepted in
    let w = takes_each_once s values u total_scale f in
    let ps = w.taken in
    let few : length ps ≡ sent_length s = sym (count_of ps) ∙ w.each (λ _. 1) ∙ count_below (sent_length s) in
    let none : sum_of great ps ≡ 0 =
    w.each great ∙ sum_same (λ n. great (heard s values u n)) (λ _. 0) (sent_length s) (λ n _. cond-true _ 0 1 (le-leb _ 32767 (small (location s n)))) ∙ sum_none (sent_length s) in
    let high = f.sent_high in
    let t = total_is_true_sum ps (omega arith) (none_great ps none) in
    let sum = w.extends ∙ t.0 in
    (sum ∙ w.each weighs, rw sum t.1)
