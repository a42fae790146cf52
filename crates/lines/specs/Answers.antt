-- The text of each answer.
-- Assumes nothing.
use Rattle.std.specs.Prelude.{ℕ, zero, suc, ◌+◌, ◌*◌, ◌/◌, cond, List, [], ◌∷◌, ◌++◌, map, length, vec_items, ◌==◌, slice_index}
use Rattle.std.specs.List.{range_with_len}
use Rattle.lines.specs.Hex.{hex, big_endian}
use Rattle.lines.specs.declared.answer.Answer.{Answer}
use Rattle.lines.specs.declared.answer.Answer.TheVariants.{Accepted, Shown, Refused}

-- the bit at a place of a block; past its end there are zeros
abbrev pub bit_at : List ℕ → ℕ → ℕ
bit_at block i = cond (slice_index block i == 1) 1 0

-- the number that n bits from place t on write, the first highest
abbrev pub bits_number : List ℕ → ℕ → ℕ → ℕ
bits_number block t zero = 0
bits_number block t (suc n) = 2 * bits_number block t n + bit_at block (t + n)

-- a block's bits, eight a byte
abbrev pub bits_packed : List ℕ → List ℕ
bits_packed block = map (λ i. bits_number block (8 * i) 8) (range_with_len 0 ((length block + 7) / 8))

-- the first character: A, L or R
abbrev pub letter : Answer → ℕ
letter Accepted = 65
letter (Shown score block) = 76
letter (Refused number line) = 82

-- what follows it
abbrev pub answer_bytes : Answer → List ℕ
answer_bytes Accepted = []
answer_bytes (Shown score block) = big_endian 8 score ++ bits_packed (vec_items block)
answer_bytes (Refused number line) = big_endian 1 number ++ big_endian 2 line

-- a line feed ends each answer
abbrev pub answer_text : Answer → List ℕ
answer_text a = letter a ∷ (hex (answer_bytes a) ++ (10 ∷ []))
