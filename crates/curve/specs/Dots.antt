-- What is counted at a ratio.
-- Assumes nothing.
use Rattle.std.specs.Prelude.{◌≡◌, ℕ, zero, suc, ◌<◌, List, length, ℤ, pos, ◌+ℤ◌, ◌≤ℤ◌, IfSome, slice_index_or}
use Rattle.std.specs.Float.Ieee.{Float, binary64, div, of_int}
use Rattle.channel.specs.Airs.{fresh}
use Rattle.channel.specs.declared.air.Air.{Air}
use Rattle.errors.specs.Errors.{added, with_block}
use Rattle.errors.specs.declared.Count.{Count}
use Rattle.plan.specs.Scheme.{Scheme}
use Rattle.curve.specs.Trials.{drawn_block, trial_view, trial_calls, decoded_block, decoded_score, next_air}
use Rattle.rows.specs.Schemes.{row_scheme}
use Rattle.curve.specs.declared.choice.Run.{Run}
use Rattle.curve.specs.declared.counting.Dot.{Dot}

-- a dot with one block more
abbrev pub with_trial : Dot → List ℕ → List ℕ → ℕ → Dot
with_trial d sent shown score = record { decibels = d.decibels; count = with_block d.count sent shown; score = added d.score score }

-- bit errors for each bit
abbrev pub rate_of : Count → Float
rate_of c = div binary64 (of_int binary64 (pos c.bit_errors)) (of_int binary64 (pos c.bits))

-- a dot of which nothing is counted yet
abbrev pub empty_dot : ℤ → Dot
empty_dot decibels = record { decibels = decibels; count = record { blocks = 0; bits = 0; bit_errors = 0; block_errors = 0 }; score = 0 }

module _ (s : Scheme) (air : Air) where
  -- each trial begins in the air that the one before it left
  abbrev pub trial_air : ℕ → Air
  trial_air zero = air
  trial_air (suc n) = next_air s (trial_air n)

  -- the dot with trial n
  abbrev pub with_next : ℕ → Dot → Dot
  with_next n d =
      let heard = trial_calls s (trial_air n) in
      with_trial d (drawn_block s (trial_air n).generator.state) (decoded_block (trial_view s) heard) (decoded_score (trial_view s) heard)

  -- a dot with so many trials
  abbrev pub counted : ℤ → ℕ → Dot
  counted decibels zero = empty_dot decibels
  counted decibels (suc n) = with_next n (counted decibels n)

-- the dot of a run at a ratio: each ratio has air of its own strength, and begins with the run's seed
abbrev pub IsDot : Run → ℤ → Dot → Type 0
IsDot run decibels d =
    IfSome (row_scheme run.choice.row run.choice.constraint) (λ s. d ≡ counted s (fresh run.seed decibels) decibels run.blocks)

-- the dots of a run, in the order of the ratios: behind them comes the ratio behind the last
pub record IsCurve (run : Run) (dots : List Dot) : Type 0 where
  pub last : run.from ≤ℤ run.to → run.from +ℤ pos (length dots) ≡ run.to +ℤ pos 1
  pub each : (i : ℕ) (d : Dot) → i < length dots → IsDot run (run.from +ℤ pos i) (slice_index_or dots i d)
