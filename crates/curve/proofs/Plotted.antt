-- Lemmas on the text of dots.
-- Assumes nothing.
use Rattle.std.proofs.Common.{◌≡◌, ℕ, ◌+◌, ◌<◌, List, [], ◌∷◌, ◌++◌, Option, length, take, get_or, map, sym, ap, ◌∙◌, subst, append_assoc, append-nil, add-zero, length-take, arith}
use Rattle.std.specs.Prelude.{ℤ}
use Rattle.std.specs.Io.KnownBytes.{Appends}
use Rattle.std.specs.List.{flat_map}
use Rattle.std.proofs.KnownBytes.{Appends-trans}
use Rattle.std.proofs.lemmas.Grind.{flat_map-append}
use Rattle.std.proofs.lemmas.List.{length-map, map-append, take_more}
use Rattle.curve.specs.Plots.{numbered, dot_line, decibels_in, dots_head, dots_text, mark}
use Rattle.curve.specs.declared.counting.Dot.{Dot}

-- the texts of one more element
spread_more : {X : Type 0} (f : X → List ℕ) (xs : List X) (i : ℕ) (d : X) → i < length xs →
    flat_map f (take i xs) ++ f (get_or xs i d) ≡ flat_map f (take (i + 1) xs)
spread_more f xs i d h =
    let x = get_or xs i d in
    sym (ap (flat_map f) (take_more xs i d h) ∙ flat_map-append f (take i xs) (x ∷ []) ∙ ap (λ l. flat_map f (take i xs) ++ l) (append-nil (f x)))

-- the mark of one more dot
pub marks_more : (line : ℕ) (dots : List Dot) (i : ℕ) (d : Dot) (text : List ℕ) → i < length dots → text ≡ mark line (get_or dots i d) →
    flat_map (mark line) (take i dots) ++ text ≡ flat_map (mark line) (take (i + 1) dots)
marks_more line dots i d text h e = ap (λ t. flat_map (mark line) (take i dots) ++ t) e ∙ spread_more (mark line) dots i d h

-- the ratio of one more dot
pub ratios_more : (dots : List Dot) (i : ℕ) (d : Dot) (z : ℤ) → i < length dots → z ≡ (get_or dots i d).decibels →
    flat_map (λ dot. decibels_in 5 dot.decibels) (take i dots) ++ decibels_in 5 z ≡ flat_map (λ dot. decibels_in 5 dot.decibels) (take (i + 1) dots)
ratios_more dots i d z h e =
    let f : Dot → List ℕ = λ dot. decibels_in 5 dot.decibels in
    ap (λ t. flat_map f (take i dots) ++ decibels_in 5 t) e ∙ spread_more f dots i d h

numbered_push : {X : Type 0} (f : ℕ → X → List ℕ) (n : ℕ) (xs : List X) (x : X) →
    numbered f n (xs ++ x ∷ []) ≡ numbered f n xs ++ f (n + length xs) x
numbered_push f n [] x = append-nil (f n x) ∙ ap (λ k. f k x) (sym (add-zero n))
numbered_push f n (y ∷ xs) x =
    let later : n + 1 + length xs ≡ n + length (y ∷ xs) = omega arith in
    ap (λ l. f n y ++ l) (numbered_push f (n + 1) xs x ∙ ap (λ k. numbered f (n + 1) xs ++ f k x) later)
    ∙ sym (append_assoc (f n y) (numbered f (n + 1) xs) (f (n + length (y ∷ xs)) x))

-- the text of one more element
pub numbered_more : {X : Type 0} (f : ℕ → X → List ℕ) (xs : List X) (i : ℕ) (d : X) (text : List ℕ) → i < length xs →
    text ≡ f i (get_or xs i d) → numbered f 0 (take i xs) ++ text ≡ numbered f 0 (take (i + 1) xs)
numbered_more f xs i d text h e =
    let x = get_or xs i d in
    let before = take i xs in
    let long : 0 + length before ≡ i = omega (arith, length-take i xs) in
    ap (λ t. numbered f 0 before ++ t) e
    ∙ sym (ap (numbered f 0) (take_more xs i d h) ∙ numbered_push f 0 before x ∙ ap (λ n. numbered f 0 before ++ f n x) long)

-- the same of the labels that elements hold
pub labels_more : {X : Type 0} (f : ℕ → List ℕ → List ℕ) (labels : List X) (g : X → List ℕ) (i : ℕ) (d : X) (text : List ℕ) → i < length labels →
    text ≡ f i (g (get_or labels i d)) → numbered f 0 (map g (take i labels)) ++ text ≡ numbered f 0 (map g (take (i + 1) labels))
labels_more f labels g i d text h e =
    let x = get_or labels i d in
    let before = map g (take i labels) in
    let long : 0 + length before ≡ i = omega (arith, length-map (take i labels) g, length-take i labels) in
    ap (λ t. numbered f 0 before ++ t) e
    ∙ sym (ap (λ l. numbered f 0 (map g l)) (take_more labels i d h) ∙ ap (numbered f 0) (map-append g (take i labels) (x ∷ []))
    ∙ numbered_push f 0 before (g x) ∙ ap (λ n. numbered f 0 before ++ f n (g x)) long)

-- the line of one dot more
pub dots_more : (dots : List Dot) (i : ℕ) (d : Dot) (w v v' : Option (List ℕ)) → i < length dots →
    Appends w v (dots_text (take i dots)) → Appends v v' (dot_line (get_or dots i d)) → Appends w v' (dots_text (take (i + 1) dots))
dots_more dots i d w v v' h written more =
    let lines = flat_map dot_line (take i dots) in
    let line = dot_line (get_or dots i d) in
    subst (Appends w v') (append_assoc dots_head lines line ∙ ap (λ l. dots_head ++ l) (spread_more dot_line dots i d h))
    (Appends-trans w v v' (dots_head ++ lines) line written more)
