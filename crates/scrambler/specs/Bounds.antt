-- Values are below 2 to the power of the width.
-- Assumes nothing.
use Rattle.std.specs.Prelude.{◌≡◌, ℕ, zero, suc, ◌^◌, ◌<◌, true, List, [], ◌∷◌, length, slice_index}
use Rattle.std.proofs.Common.{zero-add, le_of_suc-le-suc, arith}
use Rattle.std.proofs.lemmas.Nat.{mod_below, pow_pos}
use Rattle.std.proofs.lemmas.List.FromFn.{length-map-range_with_len, get_or-map-range_with_len}
use Rattle.std.proofs.lemmas.Bool.{and_parts, ltb-true}
use Rattle.plan.specs.Questions.{within, all_below}
use Rattle.scrambler.specs.Questions.{width_fits, table_fits}
use Rattle.scrambler.specs.Shifts.{drawn, drawn_values}

pub below_at : (bound : ℕ) (xs : List ℕ) → all_below bound xs ≡ true → (i : ℕ) → i < length xs → slice_index xs i < bound
below_at bound [] t i h = absurd (omega arith)
below_at bound (x ∷ xs) t zero h = ltb-true x bound (and_parts _ _ t).0
below_at bound (x ∷ xs) t (suc i) h = below_at bound xs (and_parts _ _ t).1 i (le_of_suc-le-suc h)

pub table_below : (w : ℕ) (values : List ℕ) → table_fits w values ≡ true → (i : ℕ) → i < length values → slice_index values i < 2 ^ w
table_below w values t =
    below_at (2 ^ w) values (and_parts (within 1 4096 (length values)) _ (and_parts (width_fits w) _ t).1).1

pub length_drawn : (w : ℕ) → length (drawn_values w) ≡ 4096
unfolding drawn_values
length_drawn w = length-map-range_with_len (drawn w) 0 4096

pub drawn_at : (w i : ℕ) → i < 4096 → slice_index (drawn_values w) i ≡ drawn w i
unfolding drawn_values
drawn_at w i h = get_or-map-range_with_len (drawn w) 0 4096 i i 0 h (zero-add i)

pub drawn_below : (w i : ℕ) → i < length (drawn_values w) → slice_index (drawn_values w) i < 2 ^ w
drawn_below w i h =
    let near : i < 4096 = rw length_drawn at h in
    rw drawn_at (mod_below _ (2 ^ w) (pow_pos w))
