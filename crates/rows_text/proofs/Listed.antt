-- The lists of the rows that stand for the rates.
-- Assumes nothing.
use Rattle.std.proofs.Common.{◌≡◌, ℕ, ◌+◌, ◌<◌, List, [], ◌∷◌, ◌++◌, length, take, get_or, Some, None, Option, sym, refl, ap, ◌∙◌, append_assoc}
use Rattle.std.specs.List.{flat_map}
use Rattle.std.proofs.lemmas.List.{take_more, flat_map_more}
use Rattle.rows.specs.Table.{table}
use Rattle.rows.specs.declared.rate.Rate.{Rate}
use Rattle.rows.specs.declared.row.Entry.{Entry}
use Rattle.rows_text.specs.Columns.{entry_at}
use Rattle.rows_text.specs.Lists.{list_line, both_lines, rates, lists_text}

abbrev pub of_row : (Rate → List ℕ) → Option Entry → List ℕ
of_row f None = []
of_row f (Some e) = f e.rate

some_same : (e f : Entry) → ◌≡◌ {A = Option Entry} (Some e) (Some f) → e ≡ f
some_same e f h = cc

-- a bandwidth and a waveform for each rate
abbrev pub places : List (ℕ × ℕ)
places = (21, 12) ∷ (3, 11) ∷ (18, 12) ∷ (21, 11) ∷ (3, 5) ∷ (3, 4) ∷ (3, 13) ∷ (9, 3) ∷ (3, 3) ∷ (3, 2) ∷ (15, 2) ∷ (3, 1) ∷ (15, 1) ∷ (21, 1) ∷ []

-- what is written of a place
abbrev pub of_place : (Rate → List ℕ) → ℕ × ℕ → List ℕ
of_place f p = of_row f (entry_at p.0 p.1 0)

-- computed: the rates of these rows are all rates in their order
rates_placed : (f : Rate → List ℕ) → flat_map (of_place f) places ≡ flat_map f rates
unfolding table
rates_placed f = refl

pub lists_all : flat_map (of_place both_lines) places ≡ lists_text
unfolding lists_text
lists_all = rates_placed both_lines

-- a place more, with one list behind the other
pub place_more : (n : ℕ) (d : ℕ × ℕ) (e f : Entry) → n < length places →
    entry_at (get_or places n d).0 (get_or places n d).1 0 ≡ Some e → entry_at (get_or places n d).0 (get_or places n d).1 0 ≡ Some f →
    (flat_map (of_place both_lines) (take n places) ++ list_line e.rate 7) ++ list_line f.rate 9 ≡ flat_map (of_place both_lines) (take (n + 1) places)
place_more n d e f h first second =
    let p = get_or places n d in
    let before = flat_map (of_place both_lines) (take n places) in
    let same : f ≡ e = some_same f e (sym second ∙ first) in
    append_assoc before (list_line e.rate 7) (list_line f.rate 9)
    ∙ ap (λ x. before ++ (list_line e.rate 7 ++ list_line x.rate 9)) same
    ∙ ap (λ o. before ++ of_row both_lines o) (sym first)
    ∙ flat_map_more (of_place both_lines) [] (take n places) p
    ∙ ap (flat_map (of_place both_lines)) (sym (take_more places n d h))
