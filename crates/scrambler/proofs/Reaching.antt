-- A width is at most 8; what a register answers below its reach, and from it on.
use Rattle.std.proofs.Common.{◌≡◌, ℕ, ◌<◌, ◌≤◌, true, length, Some, None, ◌==◌, refl, sym, ap, ◌∙◌, ⊎_elim, arith}
use Rattle.std.proofs.lemmas.Bool.{and_parts, or_cases, leb-true, eqb-true, cond_below, cond_above}
use Rattle.plan.specs.Questions.{within}
use Rattle.scrambler.specs.Bounds.{length_drawn, drawn_at}
use Rattle.scrambler.specs.Meaning.{value_at}
use Rattle.scrambler.specs.Questions.{width_fits}
use Rattle.scrambler.specs.Shifts.{drawn, drawn_values}

pub width_high : (w : ℕ) → width_fits w ≡ true → w ≤ 8
width_high w t =
    ⊎_elim (λ h. let high = leb-true w 6 (and_parts _ _ h).1 in omega arith) (λ h. let e = eqb-true w 8 h in omega arith)
    (or_cases (within 3 6 w) (w == 8) t)

pub drawn_value : (w i v : ℕ) → i < 4096 → v ≡ drawn w i → Some v ≡ value_at (record { width = w; values = drawn_values w }) i
drawn_value w i v h e =
    let near : i < length (drawn_values w) = rw length_drawn h in
    ap Some (e ∙ sym (drawn_at w i h)) ∙ cond_below i (length (drawn_values w)) _ _ near

pub drawn_none : (w i : ℕ) → 4096 ≤ i → None ≡ value_at (record { width = w; values = drawn_values w }) i
drawn_none w i h =
    let far : length (drawn_values w) ≤ i = rw length_drawn h in
    cond_above i (length (drawn_values w)) _ _ _ far refl
