-- What a byte of eight marks changes.
-- Assumes nothing.
use Rattle.std.proofs.Common.{◌≡◌, ℕ, ◌+◌, ◌*◌, ◌/◌, ◌%◌, ◌^◌, ◌<◌, false, ◌&&◌, eqb, ◌⊎◌, List, length, get_or, set, sym, ap, ◌∙◌, inl, inr, ⊎_elim, arith, get_or-set_other, get_or-set_same}
use Rattle.std.proofs.lemmas.Bool.{cases_eq, cond-true, cond-false, eq-eqb, ne_eqb, and_from, and_left, and_right}
use Rattle.std.proofs.lemmas.Nat.{div-mul-add, mod-mul-add}
use Rattle.trellis.specs.Marks.{lit, mark_place, marked, with_eight}

-- a time and a group of eight states have a byte of their own
place_one : (m t g i h : ℕ) → g < 2 ^ m / 8 → h < 2 ^ m / 8 → mark_place m i h ≡ mark_place m t g → (i ≡ t) × (h ≡ g)
place_one m t g i h a b e =
    let row = 2 ^ m / 8 in (
      sym (div-mul-add i row h b) ∙ ap (λ n. n / row) e ∙ div-mul-add t row g a,
      sym (mod-mul-add i row h b) ∙ ap (λ n. n % row) e ∙ mod-mul-add t row g a,
    )

-- a byte of eight marks sets these, and no others
pub marked_with : (m : ℕ) (bytes : List ℕ) (t g byte i s : ℕ) → g < 2 ^ m / 8 → mark_place m t g < length bytes → s / 8 < 2 ^ m / 8 →
    marked m (set bytes (mark_place m t g) byte) i s ≡ with_eight t g byte (marked m bytes) i s
unfolding marked
marked_with m bytes t g byte i s a l b = ⊎_elim here elsewhere (cases_eq (mark_place m i (s / 8)) (mark_place m t g))
  where
    here : mark_place m i (s / 8) ≡ mark_place m t g →
        lit (get_or (set bytes (mark_place m t g) byte) (mark_place m i (s / 8)) 0) (s % 8) ≡ with_eight t g byte (marked m bytes) i s
    here e =
        let p = place_one m t g i (s / 8) a b e in
        ap (λ n. lit (get_or (set bytes (mark_place m t g) byte) n 0) (s % 8)) e ∙ ap (λ n. lit n (s % 8)) (get_or-set_same bytes (mark_place m t g) byte 0 l)
        ∙ sym (cond-true (eqb i t && eqb (s / 8) g) _ _ (and_from _ _ (eq-eqb i t p.0) (eq-eqb (s / 8) g p.1)))

    elsewhere : (mark_place m i (s / 8) ≡ mark_place m t g → ⊥) →
        lit (get_or (set bytes (mark_place m t g) byte) (mark_place m i (s / 8)) 0) (s % 8) ≡ with_eight t g byte (marked m bytes) i s
    elsewhere ne =
        ap (λ n. lit n (s % 8)) (get_or-set_other bytes (mark_place m t g) (mark_place m i (s / 8)) byte 0 ne)
        ∙ sym (cond-false (eqb i t && eqb (s / 8) g) _ _ (apart (cases_eq i t) (cases_eq (s / 8) g)))
      where
        apart : (i ≡ t) ⊎ (i ≡ t → ⊥) → (s / 8 ≡ g) ⊎ (s / 8 ≡ g → ⊥) → (eqb i t && eqb (s / 8) g) ≡ false
        apart (inl p) (inl q) = absurd (ne (ap (λ j. mark_place m j (s / 8)) p ∙ ap (mark_place m t) q))
        apart (inl p) (inr q) = and_right (eqb i t) (eqb (s / 8) g) (ne_eqb (s / 8) g q)
        apart (inr p) q = and_left (eqb i t) (eqb (s / 8) g) (ne_eqb i t p)

-- the bytes that hold the marks of one time
pub row_is : (m row : ℕ) → 8 * row ≡ 2 ^ m → 2 ^ m / 8 ≡ row
row_is m row e = omega arith

-- a state has its mark in the row
pub group_below : (m row s : ℕ) → 8 * row ≡ 2 ^ m → s < 2 ^ m → s / 8 < 2 ^ m / 8
group_below m row s e l = omega arith

-- a mark's byte, where the row is known by its length
pub place_is : (m row t g : ℕ) → 8 * row ≡ 2 ^ m → t * row + g ≡ mark_place m t g
place_is m row t g e = ap (λ r. t * r + g) (sym (row_is m row e))
