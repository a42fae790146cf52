-- What a kind of score means: its start, how a value extends a score, and which of two scores is no worse.
-- Assumes nothing.
use Rattle.std.specs.Prelude.{◌≡◌, Bool, true, false, not, ◌&&◌, ◌||◌, ℤ}
use Rattle.score.specs.Values.{contradicted}

pub record Scale (S : Type 0) : Type 0 where
  pub start : S
  pub extended : S → ℤ → Bool → S
  pub no_worse : S → S → Bool

-- no worse, and not the other way round
abbrev pub better : {S : Type 0} → Scale S → S → S → Bool
better k a b = k.no_worse a b && not (k.no_worse b a)

pub record Lawful {S : Type 0} (k : Scale S) : Type 0 where
  -- of any two scores one is no worse than the other
  pub total : (a b : S) → (k.no_worse a b || k.no_worse b a) ≡ true
  pub transitive : (a b c : S) → k.no_worse a b ≡ true → k.no_worse b c ≡ true → k.no_worse a c ≡ true
  -- what is no worse stays so when both are extended by the same value and bit
  pub monotone : (a b : S) (value : ℤ) (bit : Bool) → k.no_worse a b ≡ true → k.no_worse (k.extended a value bit) (k.extended b value bit) ≡ true
  -- a score is no worse than its extension
  pub growing : (a : S) (value : ℤ) (bit : Bool) → k.no_worse a (k.extended a value bit) ≡ true
  -- an agreed value leaves a score as it is
  pub agreed : (a : S) (value : ℤ) (bit : Bool) → contradicted value bit ≡ false → k.extended a value bit ≡ a
  -- a contradicted value makes the start worse
  pub contradicted : (value : ℤ) (bit : Bool) → contradicted value bit ≡ true → better k k.start (k.extended k.start value bit) ≡ true
