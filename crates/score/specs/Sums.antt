-- Which values a block's score takes, and what Total then is.
-- Assumes nothing.
use Rattle.std.specs.Prelude.{◌≡◌, ℕ, zero, suc, ◌+◌, ◌≤◌, Bool, List, [], ◌∷◌, length, ℤ, unsigned_abs}
use Rattle.std.specs.List.{AllByRecursion}
use Rattle.plan.specs.Scheme.{Scheme, sent_length}
use Rattle.plan.specs.Questions.{plan_answer}
use Rattle.code.specs.Coding.{mother}
use Rattle.code.specs.Sending.{source, location}
use Rattle.score.specs.Values.{weight}
use Rattle.score.specs.Blocks.{block_score}
use Rattle.score.specs.Scale.{Scale}
use Rattle.score.specs.Kinds.{total_scale}

-- a score extended by each value in turn, each against its bit
abbrev pub extended_by : {S : Type 0} → Scale S → List (ℤ × Bool) → S → S
extended_by k [] score = score
extended_by k (p ∷ ps) score = extended_by k ps (k.extended score p.0 p.1)

-- a measure added over values with their bits
abbrev pub sum_of : (ℤ × Bool → ℕ) → List (ℤ × Bool) → ℕ
sum_of g [] = 0
sum_of g (p ∷ ps) = g p + sum_of g ps

-- what a value weighs against its bit
abbrev pub weighs : ℤ × Bool → ℕ
weighs p = weight p.0 p.1

-- the sum of the weights, without any limit
abbrev pub true_sum : List (ℤ × Bool) → ℕ
true_sum ps = sum_of weighs ps

-- from the start, up to 2,211,840 values within 32,767 of zero give the true sum
abbrev pub TotalIsTrueSum : Type 0
TotalIsTrueSum =
    (ps : List (ℤ × Bool)) → length ps ≤ 2211840 → AllByRecursion (λ p. unsigned_abs p.0 ≤ 32767) ps
    → (extended_by total_scale ps total_scale.start ≡ true_sum ps) × (true_sum ps ≤ 72475361280)

-- f 0 and so on to f (n - 1), added
abbrev pub sum_below : (ℕ → ℕ) → ℕ → ℕ
sum_below f zero = 0
sum_below f (suc n) = sum_below f n + f n

-- the value at sent bit n's location, with the bit that the block sends there
abbrev pub heard : Scheme → (ℕ → ℤ) → (ℕ → Bool) → ℕ → ℤ × Bool
heard s values u n = (values (location s n), mother s u (source s n))

-- a score takes each sent bit once: it is the start extended by a list over which every measure adds up as over the sent bits
pub record TakesEachOnce {S : Type 0} (k : Scale S) (s : Scheme) (values : ℕ → ℤ) (u : ℕ → Bool) (score : S) : Type 0 where
  pub taken : List (ℤ × Bool)
  pub extends : score ≡ extended_by k taken k.start
  pub each : (g : ℤ × Bool → ℕ) → sum_of g taken ≡ sum_below (λ n. g (heard s values u n)) (sent_length s)

-- under a plan, Total is the true sum of the weights of all sent bits
abbrev pub TotalOfBlock : Type 0
TotalOfBlock =
    (s : Scheme) (values : ℕ → ℤ) (u : ℕ → Bool) → plan_answer s ≡ 0 → ((n : ℕ) → unsigned_abs (values n) ≤ 32767)
    → (block_score total_scale s values u ≡ sum_below (λ n. weighs (heard s values u n)) (sent_length s))
    × (block_score total_scale s values u ≤ 72475361280)
