-- The lines of a text, the first one first.
-- Assumes nothing.
use Rattle.std.proofs.Common.{◌≡◌, ℕ, ◌+◌, ◌-◌, ◌<◌, ◌≢◌, Bool, true, false, cond, List, [], ◌∷◌, ◌++◌, All, length, take, get_or, sym, refl, ap, ◌∙◌, append-nil, length-append, take_all, arith, ⊎_elim, inl, inr}
use Rattle.std.specs.Prelude.{◌&&◌, ◌⊎◌, ◌==◌, slice_index, if◌then◌else◌}
use Rattle.std.specs.Io.BufRead.{take_through, drop_through, ends_with_byte, strip_last, first_line}
use Rattle.std.specs.List.{slice_split, onto_first}
use Rattle.std.specs.Str.Lines.{lines, lines_of_parts, strip_carriage_return}
use Rattle.std.proofs.BufReadLemmas.{take_through-append, drop_through-append}
use Rattle.std.proofs.lemmas.Bool.{lt-ltb, ne_eqb, eq-eqb}
use Rattle.std.proofs.lemmas.Bool.Decides.{eqb_tells}
use Rattle.std.proofs.lemmas.List.{take-append-le, get_or-append-add}
use Rattle.std.proofs.lemmas.List.Elements.{All-cons, All-nil}
use Rattle.std.proofs.lemmas.List.Splits.{slice_split_none, slice_split_at}

abbrev feed : ℕ → Bool
feed c = c == 10

-- no line feed, or the first one
cut_feed : (xs : List ℕ) → All (λ c. c ≢ 10) xs ⊎ ((front : List ℕ) × (rest : List ℕ) × (xs ≡ front ++ 10 ∷ rest) × All (λ c. c ≢ 10) front)
cut_feed [] = inl (All-nil (λ c. c ≢ 10))
cut_feed (c ∷ xs) =
    ⊎_elim (λ here. inr ([], xs, ap (λ n. n ∷ xs) here.1, All-nil (λ c. c ≢ 10)))
    (λ other. ⊎_elim
    (λ none. inl (All-cons (λ c. c ≢ 10) c xs other.1 none))
    (λ later. inr (c ∷ later.0, later.1, ap (λ l. c ∷ l) later.2, All-cons (λ c. c ≢ 10) c later.0 other.1 later.3))
    (cut_feed xs))
    (eqb_tells c 10)

no_feeds : (xs : List ℕ) → All (λ c. c ≢ 10) xs → All (λ c. feed c ≡ false) xs
no_feeds xs h = λ k d inside. ne_eqb (get_or xs k d) 10 (h k d inside)

-- what a read up to a line feed leaves of the line
abbrev first_of : List ℕ → List ℕ
first_of taken = if ends_with_byte 10 taken then strip_last 13 (strip_last 10 taken) else strip_last 10 taken

lines_only : (xs : List ℕ) → All (λ c. c ≢ 10) xs → 0 < length xs → lines xs ≡ first_line xs ∷ lines (drop_through 10 xs)
lines_only xs h some =
    let taken : take_through 10 xs ≡ xs = ap (take_through 10) (sym (append-nil xs)) ∙ take_through-append 10 xs [] h ∙ append-nil xs in
    let dropped : drop_through 10 xs ≡ [] = ap (drop_through 10) (sym (append-nil xs)) ∙ drop_through-append 10 xs [] h in
    let near : length xs - 1 < length xs = omega (arith, some) in
    let full : (length xs ≡ 0) → ⊥ = λ e. omega (arith, some, e) in
    let last = ne_eqb (slice_index xs (length xs - 1)) 10 (h (length xs - 1) 0 near) in
    let unfed : ends_with_byte 10 xs ≡ false = λ k. lt-ltb 0 (length xs) some k && last k in
    let kept : first_of xs ≡ xs =
    λ k. if unfed k then strip_last 13 (if unfed k then take (length xs - 1) xs else xs) else (if unfed k then take (length xs - 1) xs else xs) in
    let whole : first_line xs ≡ xs = ap first_of taken ∙ kept in
    let one : lines xs ≡ xs ∷ [] = ap lines_of_parts (slice_split_none feed xs (no_feeds xs h)) ∙ (λ k. if ne_eqb (length xs) 0 full k then [] else xs ∷ []) in
    one ∙ sym (λ k. whole k ∷ lines (dropped k))

same_strip : (l : List ℕ) → strip_carriage_return l ≡ strip_last 13 l
same_strip [] = refl
same_strip (c ∷ cs) =
    let some : 0 < length (c ∷ cs) = omega arith in
    sym (λ k. if lt-ltb 0 (length (c ∷ cs)) some k && (slice_index (c ∷ cs) (length (c ∷ cs) - 1) == 13) then take (length (c ∷ cs) - 1) (c ∷ cs) else c ∷ cs)

split_some : (xs : List ℕ) → (y : List ℕ) × (more : List (List ℕ)) × (slice_split feed xs ≡ y ∷ more)
split_some [] = ([], [], refl)
split_some (c ∷ xs) = at (feed c) (split_some xs)
  where
    at : (b : Bool) → (y : List ℕ) × (more : List (List ℕ)) × (slice_split feed xs ≡ y ∷ more)
        → (y : List ℕ) × (more : List (List ℕ)) × (cond b ([] ∷ slice_split feed xs) (onto_first c (slice_split feed xs)) ≡ y ∷ more)
    at true s = ([], slice_split feed xs, refl)
    at false s = (c ∷ s.0, s.1, ap (onto_first c) s.2)

lines_first : (xs front rest : List ℕ) → xs ≡ front ++ 10 ∷ rest → All (λ c. c ≢ 10) front → lines xs ≡ first_line xs ∷ lines (drop_through 10 xs)
lines_first xs front rest e h =
    let line = front ++ 10 ∷ [] in
    let taken : take_through 10 xs ≡ line = ap (take_through 10) e ∙ take_through-append 10 front (10 ∷ rest) h in
    let dropped : drop_through 10 xs ≡ rest = ap (drop_through 10) e ∙ drop_through-append 10 front (10 ∷ rest) h in
    let long : length line ≡ length front + 1 = length-append front (10 ∷ []) in
    let some : 0 < length line = omega (arith, long) in
    let back : length line - 1 ≡ length front = omega (arith, long) in
    let back0 : length line - 1 ≡ length front + 0 = omega (arith, long) in
    let last : slice_index line (length line - 1) ≡ 10 = ap (λ n. get_or line n 0) back0 ∙ get_or-append-add front (10 ∷ []) 0 0 in
    let fed : ends_with_byte 10 line ≡ true = λ k. lt-ltb 0 (length line) some k && eq-eqb (slice_index line (length line - 1)) 10 last k in
    let stripped : strip_last 10 line ≡ front =
    (λ k. if fed k then take (length line - 1) line else line) ∙ ap (λ n. take n line) back
    ∙ take-append-le (length front) front (10 ∷ []) (omega arith) ∙ take_all (length front) front (omega arith) in
    let ended : first_of line ≡ strip_last 13 front = λ k. if fed k then strip_last 13 (stripped k) else stripped k in
    let whole : first_line xs ≡ strip_last 13 front = ap first_of taken ∙ ended in
    let s = split_some rest in
    let parts : lines xs ≡ strip_carriage_return front ∷ lines_of_parts (s.0 ∷ s.1) =
    ap lines e ∙ ap lines_of_parts (slice_split_at feed front 10 rest (no_feeds front h) refl) ∙ ap (λ l. lines_of_parts (front ∷ l)) s.2 in
    parts ∙ (λ k. same_strip front k ∷ lines_of_parts (sym s.2 k)) ∙ sym (λ k. whole k ∷ lines (dropped k))

-- what is read as the next line is the text's first line
pub lines_next : (xs : List ℕ) → 0 < length xs → lines xs ≡ first_line xs ∷ lines (drop_through 10 xs)
lines_next xs some = ⊎_elim (λ h. lines_only xs h some) (λ q. lines_first xs q.0 q.1 q.2 q.3) (cut_feed xs)
