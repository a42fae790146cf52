-- The calls of a symbol by the number that is drawn for it, and those of the turns so far.
-- Assumes nothing.
use Rattle.std.proofs.Common.{◌≡◌, ℕ, ◌+◌, ◌%◌, ◌<◌, ◌≤◌, Bool, true, false, cond, ◌&&◌, List, [], ◌∷◌, ◌++◌, length, map, Some, None, Option, SomeIff, get_or, All, sym, refl, ap, subst, ◌∙◌, append-nil, zero-add, arith}
use Rattle.std.specs.List.{range_with_len, flat_map}
use Rattle.std.specs.Prelude.{◌==◌, nat_lt}
use Rattle.std.specs.Option.{unwrap_or}
use Rattle.std.proofs.lemmas.Bool.{ne_eqb, lt-ltb, le-ltb, ltb-false}
use Rattle.std.proofs.lemmas.Grind.{flat_map-append}
use Rattle.std.proofs.lemmas.List.{get_or_past}
use Rattle.std.proofs.lemmas.List.FromFn.{map-range_with_len_more, length-range_with_len, get_or-range_with_len}
use Rattle.channel.specs.Airs.{aired}
use Rattle.channel.specs.declared.air.Air.{Air}
use Rattle.plan.specs.Scheme.{Scheme, sent_length}
use Rattle.replay.specs.declared.call.Call.{Call}
use Rattle.replay.specs.declared.call.Call.TheVariants.{Blank}
use Rattle.scrambler.specs.Meaning.{Meaning, reach, value_at}
use Rattle.curve.specs.Calls.{drawn_on, chance, left_air, hearing, symbol_calls}

-- past the reach a list of numbers is read as 0
pub value_or_zero : (m : Meaning) (place : ℕ) → unwrap_or (value_at m place) 0 ≡ get_or m.values place 0
value_or_zero m place = at (nat_lt place (reach m)) refl where
  at : (b : Bool) → nat_lt place (reach m) ≡ b → unwrap_or (value_at m place) 0 ≡ get_or m.values place 0
  at true e = rw e refl
  at false e = rw e (sym (get_or_past m.values place 0 (ltb-false place (reach m) e)))

-- a remainder by a number above 0
pub rem_or_zero : (o : Option ℕ) (a b : ℕ) → SomeIff o (0 < b) (a % b) → 1 ≤ b → unwrap_or o 0 ≡ a % b
rem_or_zero None a b h some = absurd (h (omega (arith, some)))
rem_or_zero (Some x) a b h some = h.1

module _ (s : Scheme) (m : Meaning) (indices : List ℕ) (air : Air) (place : ℕ) (first : Call) where
  -- the calls of a symbol for which this number is drawn
  by_number : ℕ → List Call
  by_number n =
      cond (n == 0) []
      (first ∷ cond (n == 1) (Blank (sent_length s) place ∷ []) (cond (nat_lt 1 n && nat_lt n 10) (hearing s m indices (drawn_on 1 air) place ∷ []) []))

  pub calls_never : (n : ℕ) → n ≡ chance air → n ≡ 0 → symbol_calls s m indices air place first ≡ []
  unfolding by_number
  calls_never n e z = ap by_number (sym e ∙ z)

  pub calls_blanked : (n : ℕ) → n ≡ chance air → n ≡ 1 → symbol_calls s m indices air place first ≡ first ∷ Blank (sent_length s) place ∷ []
  unfolding by_number
  calls_blanked n e o = ap by_number (sym e ∙ o)

  pub calls_again : (n : ℕ) → n ≡ chance air → (n ≡ 0 → ⊥) → (n ≡ 1 → ⊥) → n < 10 →
      symbol_calls s m indices air place first ≡ first ∷ hearing s m indices (drawn_on 1 air) place ∷ []
  unfolding by_number
  calls_again n e z o h =
      let more : 1 < n = omega (arith, z, o) in
      ap by_number (sym e)
      ∙ (λ i. cond (ne_eqb n 0 z i) [] (first ∷ cond (ne_eqb n 1 o i) (Blank (sent_length s) place ∷ []) (cond (lt-ltb 1 n more i && lt-ltb n 10 h i) (hearing s m indices (drawn_on 1 air) place ∷ []) [])))

  pub calls_once : (n : ℕ) → n ≡ chance air → (n ≡ 0 → ⊥) → (n ≡ 1 → ⊥) → 10 ≤ n → symbol_calls s m indices air place first ≡ first ∷ []
  unfolding by_number
  calls_once n e z o h =
      let more : 1 < n = omega (arith, h) in
      ap by_number (sym e)
      ∙ (λ i. cond (ne_eqb n 0 z i) [] (first ∷ cond (ne_eqb n 1 o i) (Blank (sent_length s) place ∷ []) (cond (lt-ltb 1 n more i && le-ltb n 10 h i) (hearing s m indices (drawn_on 1 air) place ∷ []) [])))

module _ (air : Air) (n : ℕ) (e : n ≡ chance air) where
  -- the air that a symbol leaves for which this number is drawn
  left_by : ℕ → Air
  left_by k = cond (nat_lt 1 k && nat_lt k 10) (aired (drawn_on 1 air)) (drawn_on 1 air)

  pub left_low : n ≤ 1 → left_air air ≡ drawn_on 1 air
  unfolding left_by
  left_low h = ap left_by (sym e) ∙ (λ i. cond (le-ltb 1 n h i && nat_lt n 10) (aired (drawn_on 1 air)) (drawn_on 1 air))

  pub left_again : (n ≡ 0 → ⊥) → (n ≡ 1 → ⊥) → n < 10 → left_air air ≡ aired (drawn_on 1 air)
  unfolding left_by
  left_again z o h =
      let more : 1 < n = omega (arith, z, o) in
      ap left_by (sym e) ∙ (λ i. cond (lt-ltb 1 n more i && lt-ltb n 10 h i) (aired (drawn_on 1 air)) (drawn_on 1 air))

  pub left_high : 10 ≤ n → left_air air ≡ drawn_on 1 air
  unfolding left_by
  left_high h =
      let more : 1 < n = omega (arith, h) in
      ap left_by (sym e) ∙ (λ i. cond (lt-ltb 1 n more i && le-ltb n 10 h i) (aired (drawn_on 1 air)) (drawn_on 1 air))

-- the lists of the first n + 1 numbers are those of the first n, and one more
flat_of_map : {X : Type 0} (f : ℕ → List X) (xs : List ℕ) → flat_map f xs ≡ flat_map (λ ys. ys) (map f xs)
flat_of_map f [] = refl
flat_of_map f (x ∷ xs) = ap (λ l. f x ++ l) (flat_of_map f xs)

pub flat_map_more : {X : Type 0} (f : ℕ → List X) (n : ℕ) → flat_map f (range_with_len 0 (n + 1)) ≡ flat_map f (range_with_len 0 n) ++ f n
flat_map_more f n =
    flat_of_map f (range_with_len 0 (n + 1))
    ∙ ap (flat_map (λ ys. ys)) (map-range_with_len_more f 0 n n (zero-add n))
    ∙ flat_map-append (λ ys. ys) (map f (range_with_len 0 n)) (f n ∷ [])
    ∙ (λ i. sym (flat_of_map f (range_with_len 0 n)) i ++ append-nil (f n) i)

-- the first n numbers are below n
pub range_below : (n : ℕ) → All (λ p. p < n) (range_with_len 0 n)
range_below n k d h =
    let near : k < n = subst (λ m. k < m) (length-range_with_len 0 n) h in
    let P : ℕ → Type 0 = λ p. p < n in
    subst P (sym (get_or-range_with_len 0 n k d near ∙ zero-add k)) near

-- an element of a list of places
pub place_below : (n i : ℕ) (xs ys : List ℕ) → xs ≡ ys → All (λ p. p < n) ys → i < length xs → get_or xs i 0 < n
place_below n i xs ys e below h =
    let P : List ℕ → Type 0 = λ zs. get_or zs i 0 < n in
    subst P (sym e) (below i 0 (subst (λ zs. i < length zs) e h))

-- the first n + 1 numbers
map_same : (xs : List ℕ) → map (λ x. x) xs ≡ xs
map_same [] = refl
map_same (x ∷ xs) = ap (λ l. x ∷ l) (map_same xs)

pub range_more : (n : ℕ) → range_with_len 0 (n + 1) ≡ range_with_len 0 n ++ n ∷ []
range_more n =
    sym (map_same (range_with_len 0 (n + 1))) ∙ map-range_with_len_more (λ x. x) 0 n n (zero-add n) ∙ (λ i. map_same (range_with_len 0 n) i ++ n ∷ [])
