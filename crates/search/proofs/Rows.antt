-- The states of a step, eight at a time: the scores of the new column and a row of marks.
-- Assumes nothing.
use Rattle.std.proofs.Common.{◌≡◌, ℕ, ◌+◌, ◌-◌, ◌*◌, ◌/◌, ◌%◌, ◌^◌, ◌<◌, ◌≤◌, Bool, ◌&&◌, eqb, List, length, get_or, sym, refl, ap, ◌∙◌, subst, ⊎_elim, arith}
use Rattle.std.proofs.lemmas.Nat.{mul-add-lt}
use Rattle.std.proofs.lemmas.Bool.{cases_lt, cond-true, cond-false, eq-eqb, ne_eqb, and_from, and_left, and_right}
use Rattle.trellis.specs.Marks.{lit, mark_place, marked, with_eight}

-- a row's byte lies in a memory that has room for every row
pub place_below : (m size row t group length : ℕ) → 8 * row ≡ 2 ^ m → t < size → group < row → size * 2 ^ m / 8 ≤ length → mark_place m t group < length
place_below m size row t group length e a b h =
    let r : 2 ^ m / 8 ≡ row = omega arith in
    let whole : size * 2 ^ m ≡ size * (8 * row) = ap (λ n. size * n) (sym e) in
    let p : t * (2 ^ m / 8) ≡ t * row = ap (λ n. t * n) r in
    omega (arith, mul-add-lt t row group size a b)

module _ {S : Type 0} (mark : ℕ → Bool) (score : ℕ → S) (start : S) (m t : ℕ) (before : List S) (bytes : List ℕ) where
  -- after the first groups of eight states
  pub record Filled (groups : ℕ) (scores : List S) (marks : List ℕ) : Type 0 where
    pub scored : (s : ℕ) → s < 8 * groups → get_or scores s start ≡ score s
    pub here : (s : ℕ) → s < 8 * groups → s < 2 ^ m → marked m marks t s ≡ mark s
    pub others : (i s : ℕ) → (i ≡ t → ⊥) → s < 2 ^ m → marked m marks i s ≡ marked m bytes i s
    pub len : length scores ≡ length before

  pub filled_more : (group byte : ℕ) (scores : List S) (marks : List ℕ) (scores' : List S) (marks' : List ℕ) →
      ((i : ℕ) → i < 8 → lit byte i ≡ mark (8 * group + i)) →
      ((i : ℕ) → i < 8 → get_or scores' (8 * group + i) start ≡ score (8 * group + i)) →
      ((s : ℕ) → s < 8 * group → get_or scores' s start ≡ get_or scores s start) →
      length scores' ≡ length scores →
      ((i s : ℕ) → s < 2 ^ m → marked m marks' i s ≡ with_eight t group byte (marked m marks) i s) →
      Filled group scores marks → Filled (group + 1) scores' marks'
  filled_more group byte scores marks scores' marks' lits news olds len puts f = record {
    scored = λ s l. ⊎_elim (λ k. olds s k ∙ f.scored s k)
        (λ k. let e : 8 * group + (s - 8 * group) ≡ s = omega arith in
        subst (λ n. get_or scores' n start ≡ score n) e (news (s - 8 * group) (omega arith)))
        (cases_lt s (8 * group));
    here = λ s l b. puts t s b ∙ ⊎_elim
        (λ k. cond-false (eqb t t && eqb (s / 8) group) _ _ (and_right _ _ (ne_eqb (s / 8) group (λ e. omega arith))) ∙ f.here s k b)
        (λ k.
        let e : 8 * group + s % 8 ≡ s = omega arith in
        cond-true (eqb t t && eqb (s / 8) group) _ _ (and_from _ _ (eq-eqb t t refl) (eq-eqb (s / 8) group (omega arith)))
        ∙ lits (s % 8) (omega arith) ∙ ap mark e)
        (cases_lt s (8 * group));
    others = λ i s ne b. puts i s b ∙ cond-false (eqb i t && eqb (s / 8) group) _ _ (and_left _ _ (ne_eqb i t ne)) ∙ f.others i s ne b;
    len = len ∙ f.len;
  }
