-- Eight states of a step, the last first: their marks in a byte, their scores in the new column.
-- Assumes nothing.
use Rattle.std.proofs.Common.{◌≡◌, ℕ, suc, ◌+◌, ◌-◌, ◌*◌, ◌/◌, ◌%◌, ◌^◌, ◌<◌, ◌≤◌, Bool, true, false, cond, eqb, List, length, get_or, set as put, sym, refl, ap, ◌∙◌, subst, ⊎_elim, arith, get_or-set_other, get_or-set_same}
use native.Mathlib.Nat.{pow-le-pow_right}
use mir.Val.{bool_byte}
use Rattle.std.proofs.lemmas.List.{length-set}
use Rattle.std.proofs.lemmas.Bool.{cases_eq}
use Rattle.code.specs.Numbers.{digit, num}
use Rattle.code.proofs.Blocks.{num_below}
use Rattle.code.proofs.Windows.{bit_num}
use Rattle.trellis.specs.Marks.{lit}
use Rattle.trellis.proofs.Bits.{byte_digit}

module _ {S : Type 0} (mark : ℕ → Bool) (score : ℕ → S) (start : S) (before : List S) (group : ℕ) where
  -- the marks from the last state down
  abbrev pub down : ℕ → Bool
  down j = mark (8 * group + 7 - j)

  -- once the states from `left` on are done
  pub record Done (left byte : ℕ) (scores : List S) : Type 0 where
    pub marks : byte ≡ num down (8 - left) 0
    pub set : (j : ℕ) → left ≤ j → j < 8 → get_or scores (8 * group + j) start ≡ score (8 * group + j)
    pub below : (s : ℕ) → s < 8 * group → get_or scores s start ≡ get_or before s start
    pub len : length scores ≡ length before

  pub done_fits : (left byte : ℕ) (scores : List S) → 0 < left → Done left byte scores → byte < 128
  done_fits left byte scores l d =
      let k : 8 - left ≤ 7 = omega arith in
      let p : 2 ^ (8 - left) ≤ 2 ^ 7 = pow-le-pow_right (omega arith) k in
      omega (arith, num_below down (8 - left) 0, d.marks)

  pub done_more : (left byte : ℕ) (scores : List S) (b : Bool) (x : S) (byte' : ℕ) (scores' : List S) → 0 < left → left ≤ 8 → 8 * group + 8 ≤ length before →
      b ≡ mark (8 * group + (left - 1)) → x ≡ score (8 * group + (left - 1)) → byte' ≡ 2 * byte + bool_byte b → scores' ≡ put scores (8 * group + (left - 1)) x →
      Done left byte scores → Done (left - 1) byte' scores'
  done_more left byte scores b x byte' scores' l m h p q e f d =
      let at = 8 * group + (left - 1) in
      let last : at ≡ 8 * group + 7 - (0 + (8 - left)) = omega arith in
      let more : suc (8 - left) ≡ 8 - (left - 1) = omega arith in
      subst (Done (left - 1) byte') (sym f) (record {
        marks = e ∙ ap (λ n. 2 * byte + n) (byte_digit b) ∙ ap (λ n. 2 * n + digit b) d.marks
            ∙ ap (λ c. 2 * num down (8 - left) 0 + digit c) (p ∙ ap mark last)
            ∙ ap (λ n. num down n 0) more;
        set = λ j k r. ⊎_elim
            (λ e. let e' : 8 * group + j ≡ at = omega arith in
            ap (λ n. get_or (put scores at x) n start) e' ∙ get_or-set_same scores at x start (omega (arith, d.len)) ∙ q ∙ ap score (sym e'))
            (λ ne. get_or-set_other scores at (8 * group + j) x start (λ e. ne (omega arith)) ∙ d.set j (omega arith) r)
            (cases_eq j (left - 1));
        below = λ s k. get_or-set_other scores at s x start (λ e. omega arith) ∙ d.below s k;
        len = length-set scores at x ∙ d.len;
      })

  pub done_marks : (left byte : ℕ) (scores : List S) → left ≡ 0 → Done left byte scores → (i : ℕ) → i < 8 → lit byte i ≡ mark (8 * group + i)
  done_marks left byte scores a d i l =
      let e : 8 - 1 - (7 - i) ≡ i = omega arith in
      ap (λ x. eqb (x / 2 ^ i % 2) 1) (d.marks ∙ ap (λ k. num down (8 - k) 0) a)
      ∙ ap (λ j. eqb (num down 8 0 / 2 ^ j % 2) 1) (sym e)
      ∙ bit_num down 8 0 (7 - i) (omega arith)
      ∙ ap mark (omega arith)

  pub done_scores : (left byte : ℕ) (scores : List S) → left ≡ 0 → Done left byte scores → (i : ℕ) → i < 8 → get_or scores (8 * group + i) start ≡ score (8 * group + i)
  done_scores left byte scores a d i l = d.set i (omega arith) l

-- the score of the way that survives
pub chosen_way : {S : Type 0} (way : Bool → S) (mark : Bool) → cond mark (way true) (way false) ≡ way mark
chosen_way way true = refl
chosen_way way false = refl
