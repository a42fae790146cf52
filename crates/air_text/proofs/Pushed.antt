-- The lines of one place more.
-- Assumes nothing.
use Rattle.std.proofs.Common.{◌≡◌, ℕ, ◌+◌, ◌<◌, List, [], ◌∷◌, ◌++◌, length, take, get_or, sym, ap, ◌∙◌, append_assoc, append-nil, add-zero, length-take, arith}
use Rattle.std.proofs.lemmas.List.{take_more}
use Rattle.air_text.specs.Lines.{place_line, place_lines}

places_push : (place : ℕ) (xs : List ℕ) (x : ℕ) → place_lines place (xs ++ x ∷ []) ≡ place_lines place xs ++ place_line (place + length xs) x
places_push place [] x = append-nil (place_line place x) ∙ ap (λ n. place_line n x) (sym (add-zero place))
places_push place (y ∷ xs) x =
    let later : place + 1 + length xs ≡ place + length (y ∷ xs) = omega arith in
    ap (λ l. place_line place y ++ l) (places_push (place + 1) xs x ∙ ap (λ n. place_lines (place + 1) xs ++ place_line n x) later)
    ∙ sym (append_assoc (place_line place y) (place_lines (place + 1) xs) (place_line (place + length (y ∷ xs)) x))

pub places_more : (xs : List ℕ) (i : ℕ) → i < length xs → place_lines 0 (take i xs) ++ place_line i (get_or xs i 0) ≡ place_lines 0 (take (i + 1) xs)
places_more xs i h =
    let long : 0 + length (take i xs) ≡ i = omega (arith, length-take i xs) in
    sym (ap (place_lines 0) (take_more xs i 0 h) ∙ places_push 0 (take i xs) (get_or xs i 0) ∙ ap (λ n. place_lines 0 (take i xs) ++ place_line n (get_or xs i 0)) long)
