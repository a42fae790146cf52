-- The tail-biting convolutional code.
-- Assumes nothing.
use Rattle.std.specs.Prelude.{ℕ, ◌+◌, ◌*◌, ◌/◌, ◌%◌, Bool, true, false, cond, not, ◌&&◌, List, [], ◌∷◌, map, length, ◌==◌}
use Rattle.std.specs.List.{range_with_len}
use Rattle.plan.specs.Scheme.{Scheme}
use Rattle.plan.specs.Questions.{all_below}

-- which bits of a window the first coded bit adds
abbrev pub first_taps : ℕ → List ℕ
first_taps k = cond (k == 7) (0 ∷ 1 ∷ 3 ∷ 4 ∷ 6 ∷ []) (0 ∷ 4 ∷ 5 ∷ 6 ∷ 8 ∷ [])

-- which bits of a window the second coded bit adds
abbrev pub second_taps : ℕ → List ℕ
second_taps k = cond (k == 7) (0 ∷ 3 ∷ 4 ∷ 5 ∷ 6 ∷ []) (0 ∷ 1 ∷ 3 ∷ 5 ∷ 6 ∷ 7 ∷ 8 ∷ [])

-- addition modulo 2
abbrev pub xor : Bool → Bool → Bool
xor true b = not b
xor false b = b

-- the sum modulo 2 of a window's bits at the taps
abbrev pub sum_at : (ℕ → Bool) → List ℕ → Bool
sum_at w [] = false
sum_at w (i ∷ is) = xor (w i) (sum_at w is)

-- the pair of coded bits of a window
abbrev pub pair : ℕ → (ℕ → Bool) → Bool × Bool
pair k w = (sum_at w (first_taps k), sum_at w (second_taps k))

-- a block's bits round and round: every index is taken modulo the block length, so the code bites its tail
abbrev pub around : Scheme → (ℕ → Bool) → ℕ → Bool
around s u i = u (i % s.block)

-- the pair of window t, whose bits are those from t on
abbrev pub coded : Scheme → (ℕ → Bool) → ℕ → Bool × Bool
coded s u t = pair s.constraint (λ i. around s u (t + i))

-- one of a pair: the first for an even place of the code word, the second for an odd one
abbrev pub one_of : ℕ → Bool × Bool → Bool
one_of c p = cond (c % 2 == 0) p.0 p.1

-- bit c of the code word: the pairs of the windows, one after the other
unfoldable pub mother : Scheme → (ℕ → Bool) → ℕ → Bool
mother s u c = one_of c (coded s u (c / 2))

-- the code word: two bits for each bit of the block
abbrev pub word : Scheme → (ℕ → Bool) → List Bool
word s u = map (mother s u) (range_with_len 0 (2 * s.block))

-- these bytes are a block: as many as the plan says, each 0 or 1
abbrev pub is_block : Scheme → List ℕ → Bool
is_block s bytes = length bytes == s.block && all_below 2 bytes
