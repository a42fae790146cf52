-- Only the columns and marks of the states that there are decide.
-- Assumes nothing.
use Rattle.std.proofs.Common.{◌≡◌, ℕ, zero, suc, ◌^◌, ◌<◌, Bool, true, false, cond, not, eqb, Option, unwrap_or, refl, ap, ◌∙◌, arith}
use Rattle.trellis.specs.Steps.{Steps}
use Rattle.trellis.specs.Survivors.{window, before, way, next_mark, next}
use Rattle.trellis.specs.Choice.{back, origin}

-- the state before a step is one of those that there are
pub before_below : (m s : ℕ) (b : Bool) → s < 2 ^ m → before m b s < 2 ^ m
before_below m s true l = omega arith
before_below m s false l = omega arith

module _ {S : Type 0} (steps : Steps S) (m t : ℕ) (one other : ℕ → S) (same : (s : ℕ) → s < 2 ^ m → one s ≡ other s) where
  way_same : (s : ℕ) (b : Bool) → s < 2 ^ m → way steps m t one s b ≡ way steps m t other s b
  way_same s b l = ap (steps.take t (window m b s)) (same (before m b s) (before_below m s b l))

  pub mark_same : (forced : Option Bool) (s : ℕ) → s < 2 ^ m → next_mark steps m forced t one s ≡ next_mark steps m forced t other s
  mark_same forced s l =
      ap (λ x. unwrap_or forced (not (steps.no_worse x (way steps m t one s true)))) (way_same s false l)
      ∙ ap (λ x. unwrap_or forced (not (steps.no_worse (way steps m t other s false) x))) (way_same s true l)

  pub next_same : (forced : Option Bool) (s : ℕ) → s < 2 ^ m → next steps m forced t one s ≡ next steps m forced t other s
  next_same forced s l = ap (way steps m t one s) (mark_same forced s l) ∙ way_same s (next_mark steps m forced t other s) l

-- marks that agree at every time and state trace back the same bits
pub back_same : (m : ℕ) (one other : ℕ → ℕ → Bool) (n s i : ℕ) → s < 2 ^ m → ((t s : ℕ) → t < n → s < 2 ^ m → one t s ≡ other t s) → back m one n s i ≡ back m other n s i
unfolding back
back_same m one other zero s i l same = refl
back_same m one other (suc n) s i l same =
    let e = same n s (omega arith) l in
    ap (λ b. cond (eqb i n) b (back m one n (before m b s) i)) e
    ∙ ap (cond (eqb i n) (other n s)) (back_same m one other n (before m (other n s) s) i (before_below m s (other n s) l) (λ t s k. same t s (omega arith)))

-- and lead back to the same state
pub origin_same : (m : ℕ) (one other : ℕ → ℕ → Bool) (n s : ℕ) → s < 2 ^ m → ((t s : ℕ) → t < n → s < 2 ^ m → one t s ≡ other t s) → origin m one n s ≡ origin m other n s
unfolding origin
origin_same m one other zero s l same = refl
origin_same m one other (suc n) s l same =
    ap (λ b. origin m one n (before m b s)) (same n s (omega arith) l)
    ∙ origin_same m one other n (before m (other n s) s) (before_below m s (other n s) l) (λ t s k. same t s (omega arith))
