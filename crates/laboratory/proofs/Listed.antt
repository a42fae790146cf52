-- The lines of rows and of a plan.
-- Assumes nothing.
use Rattle.std.proofs.Common.{◌≡◌, ℕ, zero, suc, ◌+◌, ◌-◌, ◌<◌, ◌≤◌, Bool, true, false, cond, List, [], ◌∷◌, ◌++◌, Some, None, Option, map, take, length, get_or, sym, refl, ap, ◌∙◌, append_assoc, append-nil, arith}
use Rattle.std.specs.Prelude.{nat_lt, ◌==◌, is_some, position}
use Rattle.std.specs.Fmt.{decimal}
use Rattle.std.specs.List.{flat_map, filter, range_with_len}
use Rattle.std.specs.Option.{option_map}
use Rattle.std.proofs.lemmas.Bool.{ne_eqb, ltb-false, true≢false}
use Rattle.std.proofs.lemmas.List.{take_more, flat_map_more}
use Rattle.plan.specs.Questions.{within}
use Rattle.rows.specs.Rows.{symbol_bits, row_setting, setting_at, setting_entry, depth_at, entry_of}
use Rattle.rows.specs.Table.{bandwidths}
use Rattle.rows.specs.declared.row.Row.{Row}
use Rattle.laboratory.specs.Listing.{line_then, line_at, row_line, waveform_lines, bandwidth_lines}

-- a range with one number more
range_more : (a n : ℕ) → range_with_len a (n + 1) ≡ range_with_len a n ++ (a + n) ∷ []
range_more a zero = let e : a ≡ a + 0 = omega arith in ap (λ k. k ∷ []) e
range_more a (suc n) =
    let e : a + 1 + n ≡ a + suc n = omega arith in
    let more : suc n + 1 ≡ suc (n + 1) = omega arith in
    ap (range_with_len a) more ∙ ap (λ l. a ∷ l) (range_more (a + 1) n ∙ ap (λ k. range_with_len (a + 1) n ++ k ∷ []) e)

-- the text of one number more
pub text_more : (f : ℕ → List ℕ) (front : List ℕ) (n : ℕ) → (front ++ flat_map f (range_with_len 0 n)) ++ f n ≡ front ++ flat_map f (range_with_len 0 (n + 1))
text_more f front n =
    let e : n ≡ 0 + n = omega arith in
    flat_map_more f front (range_with_len 0 n) n ∙ ap (λ k. front ++ flat_map f (range_with_len 0 n ++ k ∷ [])) e
    ∙ ap (λ l. front ++ flat_map f l) (sym (range_more 0 n))

-- numbers that give no text may be left out
text_of_some : (f : ℕ → List ℕ) (p : ℕ → Bool) → ((n : ℕ) → p n ≡ false → f n ≡ []) → (xs : List ℕ) → flat_map f xs ≡ flat_map f (filter p xs)
text_of_some f p h [] = refl
text_of_some f p h (x ∷ xs) = at (p x) (h x) (text_of_some f p h xs)
  where
    at : (v : Bool) → (v ≡ false → f x ≡ []) → flat_map f xs ≡ flat_map f (filter p xs) → f x ++ flat_map f xs ≡ flat_map f (cond v (x ∷ filter p xs) (filter p xs))
    at true none rest = ap (λ l. f x ++ l) rest
    at false none rest = ap (λ l. l ++ flat_map f xs) (none refl) ∙ rest

text_of_none : (f : ℕ → List ℕ) → ((n : ℕ) → f n ≡ []) → (xs : List ℕ) → flat_map f xs ≡ []
text_of_none f h [] = refl
text_of_none f h (x ∷ xs) = ap (λ l. l ++ flat_map f xs) (h x) ∙ text_of_none f h xs

-- only 0 to 3 name an interleaver
depth_none : (s : _) (i : ℕ) → nat_lt i 4 ≡ false → depth_at s i ≡ None
depth_none s i h =
    let far : 4 ≤ i = ltb-false i 4 h in
    let n0 = ne_eqb i 0 (λ e. omega (arith, far, e)) in
    let n1 = ne_eqb i 1 (λ e. omega (arith, far, e)) in
    let n2 = ne_eqb i 2 (λ e. omega (arith, far, e)) in
    let n3 = ne_eqb i 3 (λ e. omega (arith, far, e)) in
    λ k. cond (n0 k) (Some s.1) (cond (n1 k) (Some s.2) (cond (n2 k) (Some s.3) (cond (n3 k) (Some s.4) None)))

entry_none : (row : Row) (s : _) → nat_lt row.interleaver 4 ≡ false → setting_entry row s ≡ None
entry_none row None h = refl
entry_none row (Some s) h = ap (option_map (entry_of s.0 (symbol_bits row.waveform))) (depth_none s row.interleaver h)

interleaver_none : (b w i : ℕ) → nat_lt i 4 ≡ false → line_at b w i ≡ []
interleaver_none b w i h = let row : Row = record { bandwidth = b; waveform = w; interleaver = i } in ap (row_line row) (entry_none row (row_setting row) h)

-- only 1 to 13 name a waveform
waveform_none : (b w : ℕ) → within 1 13 w ≡ false → waveform_lines b w ≡ []
waveform_none b w h =
    text_of_none (line_at b w)
    (λ i.
    let row : Row = record { bandwidth = b; waveform = w; interleaver = i } in
    ap (λ v. row_line row (setting_entry row (cond v (setting_at (position (λ x. x == b) bandwidths) (w - 1)) None))) h)
    (range_with_len 0 4)

none_of : (o : Option ℕ) → is_some o ≡ false → o ≡ None
none_of None h = refl
none_of (Some x) h = absurd (true≢false h)

same_both : {X : Type 0} (v : Bool) (x : X) → cond v x x ≡ x
same_both true x = refl
same_both false x = refl

bandwidth_none : (b : ℕ) → is_some (position (λ x. x == b) bandwidths) ≡ false → bandwidth_lines b ≡ []
bandwidth_none b h =
    text_of_none (waveform_lines b)
    (λ w.
    text_of_none (line_at b w)
    (λ i.
    let row : Row = record { bandwidth = b; waveform = w; interleaver = i } in
    ap (λ o. row_line row (setting_entry row (cond (within 1 13 w) (setting_at o (w - 1)) None))) (none_of (position (λ x. x == b) bandwidths) h)
    ∙ ap (λ o. row_line row (setting_entry row o)) (same_both (within 1 13 w) None))
    (range_with_len 0 4))
    (range_with_len 1 13)

-- going further than the numbers of the standard adds nothing
pub all_interleavers : (b w : ℕ) → flat_map (line_at b w) (range_with_len 0 8) ≡ waveform_lines b w
all_interleavers b w = text_of_some (line_at b w) (λ i. nat_lt i 4) (interleaver_none b w) (range_with_len 0 8)

pub all_waveforms : (b : ℕ) → flat_map (waveform_lines b) (range_with_len 0 32) ≡ bandwidth_lines b
all_waveforms b = text_of_some (waveform_lines b) (within 1 13) (waveform_none b) (range_with_len 0 32)

pub all_bandwidths : flat_map bandwidth_lines (range_with_len 0 64) ≡ flat_map bandwidth_lines bandwidths
all_bandwidths =
    let is_one : ℕ → Bool = λ b. is_some (position (λ x. x == b) bandwidths) in
    let those : filter is_one (range_with_len 0 64) ≡ bandwidths = refl in
    text_of_some bandwidth_lines is_one bandwidth_none (range_with_len 0 64) ∙ ap (flat_map bandwidth_lines) those

-- an entry of the send list, behind a blank
abbrev pub entry_text : ℕ → List ℕ
entry_text e = 32 ∷ decimal e

pub entries_more : (front es : List ℕ) (i : ℕ) → i < length es → (front ++ flat_map entry_text (take i es)) ++ entry_text (get_or es i 0) ≡ front ++ flat_map entry_text (take (i + 1) es)
entries_more front es i h = flat_map_more entry_text front (take i es) (get_or es i 0) ∙ ap (λ l. front ++ flat_map entry_text l) (sym (take_more es i 0 h))

-- the line of the send list
pub entries_line : (word es : List ℕ) → (word ++ flat_map entry_text es) ++ 10 ∷ [] ≡ line_then (word ∷ map decimal es) []
entries_line word [] = ap (λ l. l ++ 10 ∷ []) (append-nil word)
entries_line word (e ∷ es) = append_assoc word (entry_text e ++ flat_map entry_text es) (10 ∷ []) ∙ ap (λ l. word ++ (32 ∷ l)) (entries_line (decimal e) es)
