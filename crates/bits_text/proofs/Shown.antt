-- A byte that has no printed form.
-- Assumes nothing.
use Rattle.std.proofs.Common.{◌≡◌, ℕ, false, [], ◌∷◌, ◌++◌, codes, sym, ap}
use Rattle.std.specs.Prelude.{◌&&◌, nat_le}
use Rattle.std.specs.Fmt.{decimal}
use Rattle.std.proofs.lemmas.Bool.{cond-false}
use Rattle.bits_text.specs.Strays.{shown, stray_text}

pub as_number : (line byte : ℕ) → nat_le 33 byte && nat_le byte 126 ≡ false →
    codes "line " ++ (decimal line ++ (codes ": " ++ (codes "the byte " ++ (decimal byte ++ codes " is no bit")))) ≡ stray_text (record { line = line; byte = byte })
as_number line byte none =
    let plain : shown byte ≡ codes "the byte " ++ decimal byte = cond-false (nat_le 33 byte && nat_le byte 126) (39 ∷ byte ∷ 39 ∷ []) (codes "the byte " ++ decimal byte) none in
    ap (λ l. codes "line " ++ (decimal line ++ (codes ": " ++ (l ++ codes " is no bit")))) (sym plain)
