-- What a transmission tells apart, and what it rests on.
-- Assumes nothing.
use Rattle.std.proofs.Common.{◌≡◌, ℕ, zero, suc, ◌*◌, ◌%◌, ◌^◌, ◌<◌, Bool, true, false, cond, eqb, ltb, leb, List, [], ◌∷◌, map, get_or, sym, refl, ap, ◌∙◌, subst, arith}
use Rattle.std.specs.List.{range_with_len}
use Rattle.std.proofs.lemmas.Nat.{mod_below}
use Rattle.std.proofs.lemmas.Bool.{and_parts, eqb-true, leb-true, ltb-true}
use Rattle.plan.specs.Questions.{all_below, plan_answer}
use Rattle.plan.specs.Scheme.{Scheme}
use Rattle.plan.proofs.Facts.{facts}
use Rattle.code.specs.Numbers.{num, read}
use Rattle.code.specs.Mapping.{phases, symbol_of, symbol_at}
use Rattle.code.proofs.Blocks.{num_below}
use Rattle.scrambler.specs.Meaning.{Meaning, Bounded, reach}
use Rattle.sender.specs.Scrambling.{needed_width, scrambled, unscrambled, fits}
use Rattle.sender.specs.Transmission.{symbols, symbol, value_for, index_at, on_air, transmission}
use Rattle.sender.specs.Laws.{KeepsDifferences, SendsAlike}
use Rattle.sender.proofs.Back.{comes_back}

-- an entry of a list, or 0 past its end, is below 8 where every entry is
below_eight : (xs : List ℕ) → all_below 8 xs ≡ true → (i : ℕ) → get_or xs i 0 < 8
below_eight [] t i = omega arith
below_eight (x ∷ xs) t zero = ltb-true x 8 (and_parts (ltb x 8) _ t).0
below_eight (x ∷ xs) t (suc i) = below_eight xs (and_parts (ltb x 8) _ t).1 i

phases_below : (one two : Bool) → all_below 8 (cond one (0 ∷ 4 ∷ []) (cond two (0 ∷ 2 ∷ 6 ∷ 4 ∷ []) (1 ∷ 0 ∷ 2 ∷ 3 ∷ 6 ∷ 7 ∷ 5 ∷ 4 ∷ []))) ≡ true
phases_below true two = refl
phases_below false true = refl
phases_below false false = refl

few_or_many : (few : Bool) (q phase number : ℕ) → phase < 8 → number < 2 ^ q → cond few phase number < 2 ^ cond few 3 q
few_or_many true q phase number h k = h
few_or_many false q phase number h k = k

-- a symbol has no more bits than the needed width
pub symbol_below : (s : Scheme) (array : List Bool) (i : ℕ) → symbol_at s array i < 2 ^ needed_width s.bits
unfolding symbol_at symbol_of
symbol_below s array i =
    let q = s.bits in
    let number = num (read array) q (i * q) in
    few_or_many (leb q 3) q (get_or (phases q) number 0) number
    (below_eight (phases q) (phases_below (eqb q 1) (eqb q 2)) number)
    (num_below (read array) q (i * q))

-- the value for a symbol has no more bits than the needed width
pub value_below : (s : Scheme) → plan_answer s ≡ 0 → (m : Meaning) → Bounded m → fits s m ≡ true → (i : ℕ) → value_for s m i < 2 ^ needed_width s.bits
value_below s ok m bounded fit i =
    let place = mod_below i s.frame (facts s ok).frame_low in
    let both = and_parts (eqb m.width (needed_width s.bits)) (leb s.frame (reach m)) fit in
    let long = leb-true s.frame (reach m) both.1 in
    subst (λ w. value_for s m i < 2 ^ w) (eqb-true m.width (needed_width s.bits) both.0) (bounded (i % s.frame) (omega arith))

pub keeps_differences : KeepsDifferences
unfolding index_at
keeps_differences s ok m bounded fit u w i h =
    let v = value_for s m i in
    let low = value_below s ok m bounded fit i in
    let back_u = (comes_back s.bits (symbol s u i) v (symbol_below s _ i) low).1 in
    let back_w = (comes_back s.bits (symbol s w i) v (symbol_below s _ i) low).1 in (
      λ e. sym back_u ∙ ap (λ x. unscrambled s.bits x v) e ∙ back_w,
      λ e. ap (λ y. scrambled s.bits y v) e,
    )

map_same : (f g : ℕ → ℕ) → ((i : ℕ) → f i ≡ g i) → (xs : List ℕ) → map f xs ≡ map g xs
map_same f g e [] = refl
map_same f g e (x ∷ xs) = λ i. e x i ∷ map_same f g e xs i

pub sends_alike : SendsAlike
unfolding transmission index_at
sends_alike s ok m n e u =
    map_same (on_air s m u) (on_air s n u)
    (λ i. ap (scrambled s.bits (symbol s u i)) (e (i % s.frame) (mod_below i s.frame (facts s ok).frame_low)))
    (range_with_len 0 (symbols s))
