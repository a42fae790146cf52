-- A look reads the values of the locations, and no others.
-- Assumes nothing.
use Rattle.std.proofs.Common.{◌≡◌, ℕ, min, leb, List, length, take, sym, ap, ◌∙◌, ⊎_elim, arith}
use Rattle.std.proofs.lemmas.List.{length-take, take_all}
use Rattle.std.proofs.lemmas.Bool.{cases_lt, le-leb, lt-leb}

-- the part of a memory that a look takes
pub part_is : {X : Type 0} (n : ℕ) (xs : List X) → take (min n (length xs)) xs ≡ take n xs
part_is n xs =
    ⊎_elim
    (λ lt. ap (λ k. take k xs) (let e : min n (length xs) ≡ n = omega arith in e))
    (λ ge. ap (λ k. take k xs) (let e : min n (length xs) ≡ length xs = omega arith in e) ∙ take_all (length xs) xs (omega arith) ∙ sym (take_all n xs ge))
    (cases_lt n (length xs))

-- the part is long enough exactly where the memory is
pub part_long : {X : Type 0} (n : ℕ) (xs : List X) → leb n (length (take n xs)) ≡ leb n (length xs)
part_long n xs =
    ⊎_elim
    (λ short. lt-leb n (length (take n xs)) (omega (arith, length-take n xs)) ∙ sym (lt-leb n (length xs) short))
    (λ long. le-leb n (length (take n xs)) (omega (arith, length-take n xs)) ∙ sym (le-leb n (length xs) long))
    (cases_lt (length xs) n)
