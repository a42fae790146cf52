-- What a choice among the start numbers knows before every one is tried.
-- Assumes nothing.
use Rattle.std.specs.Prelude.{◌≡◌, ℕ, ◌-◌, ◌/◌, ◌^◌, ◌<◌, Bool, true, false, not, ◌&&◌, ◌||◌, ◌==◌, nat_le}
use Rattle.trellis.specs.Steps.{Steps}
use Rattle.trellis.specs.Choice.{final}

-- two start numbers have the same first bits
abbrev pub shares : ℕ → ℕ → ℕ → ℕ → Bool
shares m held x y = x / 2 ^ (m - held) == y / 2 ^ (m - held)

-- score a of number i comes before score b of number j: it is better, or an equal with no greater number
abbrev pub ahead : {S : Type 0} → (S → S → Bool) → S → ℕ → S → ℕ → Bool
ahead no_worse a i b j = no_worse a b && (nat_le i j || not (no_worse b a))

-- a start number leads with a score that its own is no worse than, and comes before the own score of each number that can't win
pub record Leads {S : Type 0} (steps : Steps S) (m size lead : ℕ) (score : S) (left : ℕ → Bool) : Type 0 where
  pub low : lead < 2 ^ m
  pub own : steps.no_worse (final steps m size lead) score ≡ true
  pub before : (x : ℕ) → x < 2 ^ m → left x ≡ false → ahead steps.no_worse score lead (final steps m size x) x ≡ true
