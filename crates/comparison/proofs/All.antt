-- What each number of a comparison comes to.
-- Assumes nothing.
use Rattle.std.proofs.Common.{◌≡◌, ℕ, ◌+◌, ◌-◌, Bool, true, false, cond, List, [], ◌∷◌, length, sym, refl, ap, ◌∙◌, arith}
use Rattle.std.specs.Prelude.{◌==◌, not, sum_by, zip}
use Rattle.std.proofs.lemmas.List.Sums.{sum_by-cons}
use Rattle.errors.specs.Errors.{differing, added}
use Rattle.comparison.specs.Comparing.{nothing, with_pair, with_sent, with_shown, compared}
use Rattle.comparison.specs.Laws.{CountsAll}
use Rattle.comparison.specs.declared.comparison.Comparison.{Comparison}

-- what pairs, sent blocks alone and shown ones alone come to, where a pair adds a number, and each block alone one of two others
total : (List ℕ → List ℕ → ℕ) → ℕ → ℕ → List (List ℕ) → List (List ℕ) → ℕ
total pair sent shown [] [] = 0
total pair sent shown [] (y ∷ ys) = shown + total pair sent shown [] ys
total pair sent shown (x ∷ xs) [] = sent + total pair sent shown xs []
total pair sent shown (x ∷ xs) (y ∷ ys) = pair x y + total pair sent shown xs ys

-- one number of a comparison grows so
record Grows (get : Comparison → ℕ) (pair : List ℕ → List ℕ → ℕ) (sent shown : ℕ) : Type 0 where
  at_pair : (c : Comparison) (x y : List ℕ) (n : ℕ) → get c ≡ added 0 n → get (with_pair c x y) ≡ added 0 (n + pair x y)
  at_sent : (c : Comparison) (n : ℕ) → get c ≡ added 0 n → get (with_sent c) ≡ added 0 (n + sent)
  at_shown : (c : Comparison) (n : ℕ) → get c ≡ added 0 n → get (with_shown c) ≡ added 0 (n + shown)

later : (n a b : ℕ) (m : ℕ) → m ≡ added 0 (n + a + b) → m ≡ added 0 (n + (a + b))
later n a b m e = omega (arith, e)

-- so it comes to all of these
comes_to : (get : Comparison → ℕ) (pair : List ℕ → List ℕ → ℕ) (sent shown : ℕ) → Grows get pair sent shown →
    (c : Comparison) (n : ℕ) (xs ys : List (List ℕ)) → get c ≡ added 0 n → get (compared c xs ys) ≡ added 0 (n + total pair sent shown xs ys)
unfolding total
comes_to get pair sent shown g c n [] [] h = h ∙ ap (added 0) (let e : n ≡ n + 0 = omega arith in e)
comes_to get pair sent shown g c n [] (y ∷ ys) h =
    later n shown (total pair sent shown [] ys) _ (comes_to get pair sent shown g (with_shown c) (n + shown) [] ys (g.at_shown c n h))
comes_to get pair sent shown g c n (x ∷ xs) [] h =
    later n sent (total pair sent shown xs []) _ (comes_to get pair sent shown g (with_sent c) (n + sent) xs [] (g.at_sent c n h))
comes_to get pair sent shown g c n (x ∷ xs) (y ∷ ys) h =
    later n (pair x y) (total pair sent shown xs ys) _ (comes_to get pair sent shown g (with_pair c x y) (n + pair x y) xs ys (g.at_pair c x y n h))

-- where blocks alone add nothing
no_pairs : (pair : List ℕ → List ℕ → ℕ) (xs : List (List ℕ)) → total pair 0 0 xs [] ≡ 0
unfolding total
no_pairs pair [] = refl
no_pairs pair (x ∷ xs) = let e = no_pairs pair xs in omega arith

of_pairs : (pair : List ℕ → List ℕ → ℕ) (xs ys : List (List ℕ)) → total pair 0 0 xs ys ≡ sum_by (λ p. pair p.0 p.1) (zip xs ys)
unfolding total
of_pairs pair [] [] = refl
of_pairs pair [] (y ∷ ys) = let e : total pair 0 0 [] ys ≡ 0 = of_pairs pair [] ys in let z : 0 + total pair 0 0 [] ys ≡ 0 = omega arith in z
of_pairs pair (x ∷ xs) [] = no_pairs pair (x ∷ xs)
of_pairs pair (x ∷ xs) (y ∷ ys) = ap (λ n. pair x y + n) (of_pairs pair xs ys) ∙ sym (sum_by-cons (λ p. pair p.0 p.1) (x, y) (zip xs ys))

-- where sent blocks alone are counted
of_sent : (xs ys : List (List ℕ)) → total (λ _ _. 0) 1 0 xs ys ≡ length xs - length ys
unfolding total
of_sent [] [] = refl
of_sent [] (y ∷ ys) = let e = of_sent [] ys in omega arith
of_sent (x ∷ xs) [] = let e = of_sent xs [] in omega arith
of_sent (x ∷ xs) (y ∷ ys) = let e = of_sent xs ys in omega arith

-- where shown blocks alone are counted
of_shown : (xs ys : List (List ℕ)) → total (λ _ _. 0) 0 1 xs ys ≡ length ys - length xs
unfolding total
of_shown [] [] = refl
of_shown [] (y ∷ ys) = let e = of_shown [] ys in omega arith
of_shown (x ∷ xs) [] = let e = of_shown xs [] in omega arith
of_shown (x ∷ xs) (y ∷ ys) = let e = of_shown xs ys in omega arith

-- from nothing on
from_none : (m t n : ℕ) → m ≡ added 0 (0 + t) → t ≡ n → m ≡ added 0 n
from_none m t n e f = omega (arith, e, f)

-- a number that only pairs change
of_all_pairs : (get : Comparison → ℕ) (pair : List ℕ → List ℕ → ℕ) → ((c : Comparison) (x y : List ℕ) → get (with_pair c x y) ≡ added (get c) (pair x y)) →
    ((c : Comparison) → get (with_sent c) ≡ get c) → ((c : Comparison) → get (with_shown c) ≡ get c) → get nothing ≡ added 0 0 →
    (xs ys : List (List ℕ)) → get (compared nothing xs ys) ≡ added 0 (sum_by (λ p. pair p.0 p.1) (zip xs ys))
of_all_pairs get pair p s t z xs ys = from_none _ _ _ (comes_to get pair 0 0 grows nothing 0 xs ys z) (of_pairs pair xs ys)
  where
    grows : Grows get pair 0 0
    grows = record {
      at_pair = λ c x y n h. let e = p c x y in omega (arith, e, h);
      at_sent = λ c n h. let e = s c in omega (arith, e, h);
      at_shown = λ c n h. let e = t c in omega (arith, e, h);
    }

sent_grows : Grows (λ c. c.sent_alone) (λ _ _. 0) 1 0
sent_grows = record { at_pair = λ c x y n h. omega (arith, h); at_sent = λ c n h. omega (arith, h); at_shown = λ c n h. omega (arith, h) }

shown_grows : Grows (λ c. c.shown_alone) (λ _ _. 0) 0 1
shown_grows = record { at_pair = λ c x y n h. omega (arith, h); at_sent = λ c n h. omega (arith, h); at_shown = λ c n h. omega (arith, h) }

ones : (ps : List (List ℕ × List ℕ)) → sum_by (λ _. 1) ps ≡ length ps
ones [] = refl
ones (p ∷ ps) = let e = ones ps in omega (arith, sum_by-cons (λ _. 1) p ps)

-- one where a test fails
unless : (b : Bool) → ◌≡◌ {A = ℕ} (cond b 0 1) (cond (not b) 1 0)
unless b = elim b as (λ v. ◌≡◌ {A = ℕ} (cond v 0 1) (cond (not v) 1 0)) [ true ↦ refl | false ↦ refl ]

pub counts_all : CountsAll
counts_all sent shown = record {
  blocks = of_all_pairs (λ c. c.count.blocks) (λ _ _. 1) (λ c x y. refl) (λ c. refl) (λ c. refl) refl sent shown ∙ ap (added 0) (ones (zip sent shown));
  bits = of_all_pairs (λ c. c.count.bits) (λ x y. length x) (λ c x y. refl) (λ c. refl) (λ c. refl) refl sent shown;
  bit_errors = of_all_pairs (λ c. c.count.bit_errors) differing (λ c x y. refl) (λ c. refl) (λ c. refl) refl sent shown;
  block_errors = of_all_pairs (λ c. c.count.block_errors) (λ x y. cond (not (differing x y == 0)) 1 0)
      (λ c x y. ap (added c.count.block_errors) (unless (differing x y == 0))) (λ c. refl) (λ c. refl) refl sent shown;
  unequal = of_all_pairs (λ c. c.unequal) (λ x y. cond (not (length x == length y)) 1 0)
      (λ c x y. ap (added c.unequal) (unless (length x == length y))) (λ c. refl) (λ c. refl) refl sent shown;
  sent_alone = from_none _ _ _ (comes_to (λ c. c.sent_alone) (λ _ _. 0) 1 0 sent_grows nothing 0 sent shown refl) (of_sent sent shown);
  shown_alone = from_none _ _ _ (comes_to (λ c. c.shown_alone) (λ _ _. 0) 0 1 shown_grows nothing 0 sent shown refl) (of_shown sent shown);
}
