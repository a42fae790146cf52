-- Texts and numbers as they are written, one piece after another.
-- Assumes nothing.
use Rattle.std.proofs.Common.{◌≡◌, ℕ, zero, suc, ◌+◌, ◌-◌, ◌*◌, ◌/◌, ◌^◌, ◌<◌, ◌≤◌, Bool, true, false, cond, eqb, min, List, [], ◌∷◌, ◌++◌, length, get_or, sym, refl, ap, ◌∙◌, append-nil, arith, length-append, ◌≢◌, ⊎_elim}
use Rattle.std.proofs.lemmas.Bool.{cases_lt}
use Rattle.std.proofs.lemmas.Bool.Decides.{nat_tests}
use Rattle.std.proofs.lemmas.List.{get_or_past, get_or_append_left, get_or-append-add, nil_from_length}
use Rattle.std.proofs.lemmas.List.FromFn.{length-map-range_with_len, get_or-map-range_with_len, fill_by_all}
use Rattle.lines.specs.Answers.{bit_at, bits_number, bits_packed}

cond_le : (b : Bool) → cond b 1 0 ≤ 1
cond_le true = omega arith
cond_le false = omega arith

pub bit_le : (block : List ℕ) (i : ℕ) → bit_at block i ≤ 1
bit_le block i = cond_le (eqb (get_or block i 0) 1)

-- what i bits write, with zeros after them up to eight
abbrev pub filled : List ℕ → ℕ → ℕ
filled bits i = bits_number bits 0 i * 2 ^ (8 - i)

-- one bit more
filled_more : (bits : List ℕ) (i : ℕ) → i < 8 → filled bits (i + 1) ≡ filled bits i + bit_at bits i * (128 / 2 ^ i)
filled_more bits zero h = omega arith
filled_more bits (suc zero) h = omega arith
filled_more bits (suc (suc zero)) h = omega arith
filled_more bits (suc (suc (suc zero))) h = omega arith
filled_more bits (suc (suc (suc (suc zero)))) h = omega arith
filled_more bits (suc (suc (suc (suc (suc zero))))) h = omega arith
filled_more bits (suc (suc (suc (suc (suc (suc zero)))))) h = omega arith
filled_more bits (suc (suc (suc (suc (suc (suc (suc zero))))))) h = omega arith
filled_more bits (suc (suc (suc (suc (suc (suc (suc (suc i)))))))) h = absurd (omega arith)

-- a bit has room
pub filled_room : (bits : List ℕ) (i : ℕ) → i < 8 → filled bits i + 128 / 2 ^ i < 256
filled_room bits zero h = omega arith
filled_room bits (suc zero) h = omega (arith, bit_le bits 0)
filled_room bits (suc (suc zero)) h = omega (arith, bit_le bits 0, bit_le bits 1)
filled_room bits (suc (suc (suc zero))) h = omega (arith, bit_le bits 0, bit_le bits 1, bit_le bits 2)
filled_room bits (suc (suc (suc (suc zero)))) h = omega (arith, bit_le bits 0, bit_le bits 1, bit_le bits 2, bit_le bits 3)
filled_room bits (suc (suc (suc (suc (suc zero))))) h = omega (arith, bit_le bits 0, bit_le bits 1, bit_le bits 2, bit_le bits 3, bit_le bits 4)
filled_room bits (suc (suc (suc (suc (suc (suc zero)))))) h = omega (arith, bit_le bits 0, bit_le bits 1, bit_le bits 2, bit_le bits 3, bit_le bits 4, bit_le bits 5)
filled_room bits (suc (suc (suc (suc (suc (suc (suc zero))))))) h = omega (arith, bit_le bits 0, bit_le bits 1, bit_le bits 2, bit_le bits 3, bit_le bits 4, bit_le bits 5, bit_le bits 6)
filled_room bits (suc (suc (suc (suc (suc (suc (suc (suc i)))))))) h = absurd (omega arith)

pub filled_one : (bits : List ℕ) (i : ℕ) → i < 8 → get_or bits i 0 ≡ 1 → filled bits (i + 1) ≡ filled bits i + 128 / 2 ^ i
filled_one bits i h e =
    let p = filled_more bits i h ∙ ap (λ n. filled bits i + cond (eqb n 1) 1 0 * (128 / 2 ^ i)) e in
    omega (arith, p)

bit_none : (n : ℕ) → n ≢ 1 → ◌≡◌ {A = ℕ} (cond (eqb n 1) 1 0) 0
bit_none n h = grind (arith, nat_tests)

pub filled_none : (bits : List ℕ) (i : ℕ) → i < 8 → get_or bits i 0 ≢ 1 → filled bits (i + 1) ≡ filled bits i
filled_none bits i h e =
    let p = filled_more bits i h ∙ ap (λ b. filled bits i + b * (128 / 2 ^ i)) (bit_none (get_or bits i 0) e) in
    omega (arith, p)

filled_from : (bits : List ℕ) (k i : ℕ) → length bits ≤ i → i + k ≡ 8 → filled bits i ≡ bits_number bits 0 8
filled_from bits zero i l e = let same : i ≡ 8 = omega arith in rw same (omega arith)
filled_from bits (suc k) i l e =
    let past : get_or bits i 0 ≡ 0 = get_or_past bits i 0 l in
    sym (filled_none bits i (omega arith) (λ one. omega arith)) ∙ filled_from bits k (i + 1) (omega arith) (omega arith)

-- zeros follow the last bit
pub filled_all : (bits : List ℕ) (i : ℕ) → length bits ≤ i → i ≤ 8 → filled bits i ≡ bits_number bits 0 8
filled_all bits i l h = filled_from bits (8 - i) i l (omega arith)

-- the same bits write the same number
bits_same : (a b : List ℕ) (s t n : ℕ) → ((k : ℕ) → k < n → bit_at a (s + k) ≡ bit_at b (t + k)) → bits_number a s n ≡ bits_number b t n
bits_same a b s t zero h = refl
bits_same a b s t (suc n) h =
    let before = bits_same a b s t n (λ k l. h k (omega arith)) in
    let last = h n (omega arith) in
    omega (arith, before, last)

module _ (bits rest : List ℕ) (long : length bits ≡ min 8 (length (bits ++ rest))) (sum : length (bits ++ rest) ≡ length bits + length rest) where
  whole : length bits ≢ 8 → rest ≡ []
  whole h = nil_from_length rest (omega arith)

  at_first : (k : ℕ) → k < 8 → get_or (bits ++ rest) k 0 ≡ get_or bits k 0
  at_first k h =
      ⊎_elim (λ l. get_or_append_left bits rest 0 k l)
      (λ l. let none = whole (λ e. omega arith) in rw none (ap (λ xs. get_or xs k 0) (append-nil bits)))
      (cases_lt k (length bits))

  first_bits : bits_number (bits ++ rest) 0 8 ≡ bits_number bits 0 8
  first_bits = bits_same (bits ++ rest) bits 0 0 8 (λ k l. ap (λ n. cond (eqb n 1) 1 0) (at_first (0 + k) (omega arith)))

  later_bits : (j : ℕ) → j < (length rest + 7) / 8 → bits_number (bits ++ rest) (8 * suc j) 8 ≡ bits_number rest (8 * j) 8
  later_bits j h =
      let eight : length bits ≡ 8 = omega arith in
      bits_same (bits ++ rest) rest (8 * suc j) (8 * j) 8
      (λ k l.
      let at : 8 * suc j + k ≡ length bits + (8 * j + k) = omega arith in
      ap (λ n. cond (eqb n 1) 1 0) (ap (λ m. get_or (bits ++ rest) m 0) at ∙ get_or-append-add bits rest (8 * j + k) 0))

  packed_at : (k : ℕ) → k < (length (bits ++ rest) + 7) / 8 → get_or (bits_number bits 0 8 ∷ bits_packed rest) k 0 ≡ bits_number (bits ++ rest) (8 * k) 8
  packed_at zero h = sym first_bits
  packed_at (suc j) h =
      get_or-map-range_with_len (λ i. bits_number rest (8 * i) 8) 0 ((length rest + 7) / 8) j j 0 (omega arith) (omega arith) ∙ sym (later_bits j (omega arith))

-- the bytes of eight bits and of what follows them
pub packed_more : (bits rest : List ℕ) → length bits ≡ min 8 (length (bits ++ rest)) → 0 < length (bits ++ rest) →
    bits_packed (bits ++ rest) ≡ bits_number bits 0 8 ∷ bits_packed rest
packed_more bits rest long some =
    let sum = length-append bits rest in
    let n = (length (bits ++ rest) + 7) / 8 in
    let one = length-map-range_with_len (λ i. bits_number rest (8 * i) 8) 0 ((length rest + 7) / 8) in
    sym (fill_by_all (λ i. bits_number (bits ++ rest) (8 * i) 8) (bits_number bits 0 8 ∷ bits_packed rest) n 0 (omega arith) (packed_at bits rest long sum))
