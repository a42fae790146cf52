-- The next line of a text, byte by byte.
-- Assumes nothing.
use Rattle.std.proofs.Common.{◌≡◌, ℕ, cond, List, [], ◌∷◌, ◌++◌, Some, None, Option, sym, refl, ap, ◌∙◌}
use Rattle.std.specs.Prelude.{◌==◌}
use Rattle.std.specs.Io.KnownBytes.{Consumes}
use Rattle.std.proofs.lemmas.Bool.{ne_eqb, cond-false}
use Rattle.lines.specs.Streams.{lines_from, lines_of}

-- a byte that is no line feed goes into the line
goes_on : (line rest : List ℕ) (b : ℕ) → (b ≡ 10 → ⊥) → lines_from line (b ∷ rest) ≡ lines_from (line ++ (b ∷ [])) rest
goes_on line rest b ne = cond-false (b == 10) (line ∷ lines_from [] rest) (lines_from (line ++ (b ∷ [])) rest) (ne_eqb b 10 ne)

-- a line feed ends it
ends : (line rest : List ℕ) (b : ℕ) → b ≡ 10 → lines_from line (b ∷ rest) ≡ line ∷ lines_from [] rest
ends line rest b e = ap (λ n. cond (n == 10) (line ∷ lines_from [] rest) (lines_from (line ++ (n ∷ [])) rest)) e

-- of a text whose first byte was read the rest is left
rest_of : (old new : Option (List ℕ)) (b : ℕ) (xs : List ℕ) → Consumes old new (b ∷ []) → old ≡ Some xs → (ys : List ℕ) × (new ≡ Some ys) × (xs ≡ b ∷ ys)
rest_of None new b xs h e = absurd (let f : None ≡ Some xs = e in cc)
rest_of (Some zs) None b xs h e = absurd h
rest_of (Some zs) (Some ys) b xs h e = let f : Some zs ≡ Some xs = e in let same : zs ≡ xs = cc in (ys, refl, sym same ∙ h)

-- the byte that was read is a line feed
pub line_ended : (old new : Option (List ℕ)) (b : ℕ) (text line xs : List ℕ) → Consumes old new (b ∷ []) → b ≡ 10 → old ≡ Some xs → lines_of text ≡ lines_from line xs →
    (ys : List ℕ) × (new ≡ Some ys) × (lines_of text ≡ line ∷ lines_of ys)
line_ended old new b text line xs h feed e same =
    let r = rest_of old new b xs h e in
    (r.0, r.1, same ∙ ap (lines_from line) r.2 ∙ ends line r.0 b feed)

-- it is none
pub line_went_on : (old new : Option (List ℕ)) (b : ℕ) (text line xs : List ℕ) → Consumes old new (b ∷ []) → (b ≡ 10 → ⊥) → old ≡ Some xs → lines_of text ≡ lines_from line xs →
    (ys : List ℕ) × (new ≡ Some ys) × (lines_of text ≡ lines_from (line ++ (b ∷ [])) ys)
line_went_on old new b text line xs h other e same =
    let r = rest_of old new b xs h e in
    (r.0, r.1, same ∙ ap (lines_from line) r.2 ∙ goes_on line r.0 b other)
