-- The strength of the noise by the sign of the decibels.
-- Assumes nothing.
use Rattle.std.proofs.Common.{◌≡◌, ℕ, ◌<◌, ℤ, pos, negsuc, true, false, refl, arith}
use Rattle.std.proofs.lemmas.Bool.{ltb-true, true≢false}
use Rattle.std.specs.Int.Signed.{lt_z}
use Rattle.std.specs.Prelude.{unsigned_abs}
use Rattle.channel.specs.Airs.{weaker, stronger, noise_at}

pub weaker_noise : (z : ℤ) → lt_z z (pos 0) ≡ false → weaker (unsigned_abs z) ≡ noise_at z
unfolding noise_at
weaker_noise (pos n) h = refl
weaker_noise (negsuc n) h = absurd (true≢false h)

pub stronger_noise : (z : ℤ) → lt_z z (pos 0) ≡ true → stronger (unsigned_abs z) ≡ noise_at z
unfolding noise_at
stronger_noise (pos n) h = let below : n < 0 = ltb-true n 0 h in absurd (omega arith)
stronger_noise (negsuc n) h = refl
