-- What a receiver's scrambler is never asked again.
-- Assumes nothing.
use Rattle.std.specs.Prelude.{◌≡◌, ℕ, true, ◌≢◌}
use Rattle.receiver.specs.Calls.{view_fits, making_answer, hear_answer}
use Rattle.receiver.specs.Views.{View}

-- a receiver that making gave has a scrambler that fits
abbrev pub MadeFits : Type 0
MadeFits = (v : View) (lent : ℕ) → making_answer v lent ≡ 0 → view_fits v ≡ true

-- and a scrambler that fits is never refused by hear; every call keeps the view, so this lasts
abbrev pub FitLasts : Type 0
FitLasts = (v : View) (lent place index weight : ℕ) → view_fits v ≡ true → hear_answer v lent place index weight ≢ 11
