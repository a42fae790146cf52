-- A reader is behind a text.
-- Assumes nothing.
use Rattle.std.proofs.Common.{◌≡◌, ℕ, Bool, true, false, List, [], ◌∷◌, refl}
use Rattle.bits_text.specs.Texts.{ends_inside, Says}
use Rattle.bits_text.specs.Laws.{EachStands}

-- the sign of a comment, or nothing, says no bits
text_for : (inside : Bool) → (text : List ℕ) × (inside ≡ ends_inside false text) × Says text []
text_for true = (35 ∷ [], refl, record { binary = tt; written = refl })
text_for false = ([], refl, record { binary = tt; written = refl })

pub each_stands : EachStands
each_stands r = let t = text_for r.in_comment in (t.0, [], record { comment = t.1 }, t.2)
