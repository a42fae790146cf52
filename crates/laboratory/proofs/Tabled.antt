-- The values that a register draws, as a table's.
-- Assumes nothing.
use Rattle.std.proofs.Common.{◌≡◌, ℕ, zero, suc, ◌+◌, ◌*◌, ◌<◌, ◌≤◌, ◌^◌, true, length, Some, ◌&&◌, map, sym, refl, ap, ◌∙◌, zero-add, rules}
use Rattle.std.specs.List.{range_with_len}
use Rattle.std.specs.Prelude.{◌==◌, ◌||◌}
use Rattle.std.proofs.lemmas.Bool.{cond_below, lt-ltb, le-leb}
use Rattle.std.proofs.lemmas.Nat.{mod_below, pow_pos}
use Rattle.std.proofs.lemmas.List.FromFn.{length-map-range_with_len, get_or-map-range_with_len}
use Rattle.plan.specs.Questions.{within, all_below, plan_answer}
use Rattle.plan.specs.Scheme.{Scheme}
use Rattle.plan.proofs.Facts.{facts}
use Rattle.scrambler.specs.Meaning.{Meaning, reach, value_at}
use Rattle.scrambler.specs.Questions.{width_fits, table_fits}
use Rattle.scrambler.specs.Shifts.{drawn, state_after}
use Rattle.sender.specs.Scrambling.{needed_width}
use Rattle.laboratory.specs.Tabling.{first_drawn, OfRegister}

-- a table of the values first drawn
pub table_of_drawn : (s : Scheme) (m : Meaning) → m ≡ record { width = needed_width s.bits; values = first_drawn (needed_width s.bits) s.frame } → OfRegister s m
table_of_drawn s m e =
    let w = needed_width s.bits in
    let long : length (first_drawn w s.frame) ≡ s.frame = length-map-range_with_len (drawn w) 0 s.frame in
    record {
      width = ap (λ x. x.width) e;
      long = ap reach e ∙ long;
      each = λ place h.
          let near : place < length (first_drawn w s.frame) = rw long h in
          ap (λ x. value_at x place) e ∙ sym (cond_below place (length (first_drawn w s.frame)) _ _ near)
          ∙ ap Some (get_or-map-range_with_len (drawn w) 0 s.frame place place 0 h (zero-add place));
    }

-- each value is below 2 to the power of the width
drawn_low : (w a n : ℕ) → all_below (2 ^ w) (map (drawn w) (range_with_len a n)) ≡ true
drawn_low w a zero = refl
drawn_low w a (suc n) =
    let low = lt-ltb (drawn w a) (2 ^ w) (mod_below (state_after (a * w)) (2 ^ w) (pow_pos w)) in
    λ k. low k && drawn_low w (a + 1) n k

-- the width that a plan's symbols need fits a scrambler
needed_fits : (q : ℕ) → q ≤ 8 → (within 1 6 q || q == 8) ≡ true → width_fits (needed_width q) ≡ true
needed_fits q h t = search rules

-- a table takes the values first drawn
pub drawn_fit : (s : Scheme) → plan_answer s ≡ 0 → table_fits (needed_width s.bits) (first_drawn (needed_width s.bits) s.frame) ≡ true
drawn_fit s ok =
    let w = needed_width s.bits in
    let f = facts s ok in
    let long : length (first_drawn w s.frame) ≡ s.frame = length-map-range_with_len (drawn w) 0 s.frame in
    let some = ap (within 1 4096) long ∙ (λ k. le-leb 1 s.frame f.frame_low k && le-leb s.frame 4096 f.frame_high k) in
    λ k. needed_fits s.bits f.bits_high f.bits_fit k && (some k && drawn_low w 0 s.frame k)
