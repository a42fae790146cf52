-- Results that are known beforehand, worked out by hand.
-- Assumes nothing.
use Rattle.std.specs.Prelude.{◌≡◌, ℕ, Bool, false, List, [], ◌∷◌, map, negsuc}
use Rattle.std.specs.List.{range_with_len}
use Rattle.plan.specs.Scheme.{Scheme, sent_length}
use Rattle.code.specs.Coding.{mother, word}
use Rattle.code.specs.Numbers.{bits_of, digit}
use Rattle.code.specs.Sending.{interleaved, source}
use Rattle.scrambler.specs.Meaning.{Meaning}
use Rattle.score.specs.Kinds.{total_scale, worst_scale, count_scale}
use Rattle.score.specs.declared.tally.Tally.TheVariants.{Counted}
use Rattle.sender.specs.Transmission.{symbol, transmission}

-- nine bits in three runs of the send list 0 1 2 5, with increment 5: twelve bits are sent
abbrev pub nine_bits : ℕ → ℕ → ℕ → Scheme
nine_bits k q frame = record {
  constraint = k;
  period = 3;
  entries = 0 ∷ 1 ∷ 2 ∷ 5 ∷ [];
  block = 9;
  bits = q;
  frame = frame;
  increment = 5;
}

-- nine bits of which the first coded bits alone are sent, with increment 2
abbrev pub first_coded_bits : Scheme
first_coded_bits = record { constraint = 7; period = 1; entries = 0 ∷ []; block = 9; bits = 1; frame = 9; increment = 2 }

-- the block 100000000
abbrev pub one_bit : ℕ → Bool
one_bit = bits_of (1 ∷ 0 ∷ 0 ∷ 0 ∷ 0 ∷ 0 ∷ 0 ∷ 0 ∷ 0 ∷ [])

-- the sent bits of the block, in the order of sending
abbrev pub sent_bits : Scheme → List ℕ
sent_bits s = map (λ n. digit (mother s one_bit (source s n))) (range_with_len 0 (sent_length s))

-- the bits at the locations
abbrev pub located_bits : Scheme → List ℕ
located_bits s = map digit (interleaved s (mother s one_bit))

abbrev pub table : ℕ → List ℕ → Meaning
table width values = record { width = width; values = values }

pub record KnownResults : Type 0 where
  -- the code words of the block for both constraint lengths
  pub seven : map digit (word (nine_bits 7 3 4) one_bit) ≡ 1 ∷ 1 ∷ 0 ∷ 0 ∷ 0 ∷ 0 ∷ 1 ∷ 1 ∷ 0 ∷ 1 ∷ 1 ∷ 1 ∷ 1 ∷ 1 ∷ 0 ∷ 0 ∷ 1 ∷ 0 ∷ []
  pub nine : map digit (word (nine_bits 9 3 4) one_bit) ≡ 1 ∷ 1 ∷ 1 ∷ 1 ∷ 0 ∷ 1 ∷ 1 ∷ 1 ∷ 1 ∷ 1 ∷ 1 ∷ 0 ∷ 0 ∷ 1 ∷ 0 ∷ 0 ∷ 0 ∷ 1 ∷ []
  -- what is sent, and where it is loaded
  pub sent : sent_bits (nine_bits 7 3 4) ≡ 1 ∷ 1 ∷ 0 ∷ 0 ∷ 1 ∷ 1 ∷ 0 ∷ 1 ∷ 1 ∷ 1 ∷ 0 ∷ 0 ∷ []
  pub located : located_bits (nine_bits 7 3 4) ≡ 1 ∷ 1 ∷ 0 ∷ 0 ∷ 1 ∷ 1 ∷ 0 ∷ 0 ∷ 1 ∷ 1 ∷ 0 ∷ 1 ∷ []
  pub located_by_two : located_bits first_coded_bits ≡ 1 ∷ 1 ∷ 0 ∷ 1 ∷ 0 ∷ 0 ∷ 1 ∷ 1 ∷ 0 ∷ []
  -- three bits to a symbol: the symbols, and what goes on the air
  pub symbols : map (symbol (nine_bits 7 3 4) one_bit) (range_with_len 0 4) ≡ 5 ∷ 3 ∷ 0 ∷ 7 ∷ []
  pub three : transmission (nine_bits 7 3 4) (table 3 (1 ∷ 2 ∷ 3 ∷ 4 ∷ [])) one_bit ≡ 6 ∷ 5 ∷ 3 ∷ 3 ∷ []
  -- four bits to a symbol, and two
  pub four : transmission (nine_bits 7 4 3) (table 4 (1 ∷ 2 ∷ 3 ∷ [])) one_bit ≡ 13 ∷ 14 ∷ 14 ∷ []
  pub two : transmission (nine_bits 7 2 3) (table 3 (1 ∷ 2 ∷ 3 ∷ [])) one_bit ≡ 5 ∷ 2 ∷ 7 ∷ 1 ∷ 6 ∷ 5 ∷ []
  -- the value -5 against bit 0 takes Total from 7 to 12, leaves Worst at 7, and takes one place with total 7 to two with 12
  pub total : total_scale.extended 7 (negsuc 4) false ≡ 12
  pub worst : worst_scale.extended 7 (negsuc 4) false ≡ 7
  pub counted : count_scale.extended (Counted 1 7) (negsuc 4) false ≡ Counted 2 12
