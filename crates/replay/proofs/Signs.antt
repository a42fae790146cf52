-- A weighted bit says that bit, and contradicts the other.
-- Assumes nothing.
use Rattle.std.proofs.Common.{◌≡◌, ℕ, zero, suc, ◌≤◌, Bool, true, false, not, ltb, ℤ, negsuc, refl, arith}
use Rattle.std.specs.Int.{int_max}
use Rattle.std.proofs.lemmas.Bool.{cond_both}
use Rattle.score.specs.Values.{contradicted}
use Rattle.receiver.specs.Values.{signed}

-- the value says this bit, and not the other
pub record Says (value : ℤ) (bit : Bool) : Type 0 where
  pub agreed : contradicted value bit ≡ false
  pub other : contradicted value (not bit) ≡ true

-- a weight of 1 or more keeps its sign where the lowest value is clipped
pub signed_says : (weight : ℕ) (bit : Bool) → 1 ≤ weight → Says (int_max (signed weight bit) (negsuc 32766)) bit
signed_says zero bit h = absurd (omega arith)
signed_says (suc n) true h =
    cond_both (ltb n 32766) (negsuc n) (negsuc 32766) (λ x. Says x true)
    (λ _. record { agreed = refl; other = refl }) (λ _. record { agreed = refl; other = refl })
signed_says (suc n) false h = record { agreed = refl; other = refl }
