-- What the generator draws: the numbers of splitmix64.
-- Assumes nothing.
use Rattle.std.specs.Prelude.{ℕ, zero, suc, ◌+◌, ◌-◌, ◌*◌, ◌/◌, ◌%◌, ◌^◌, List, map, length, bit_xor}
use Rattle.std.specs.List.{range_with_len, swap}

-- each draw adds the same odd number, modulo 2 to the power 64
abbrev pub stepped : ℕ → ℕ
stepped state = (state + 0x9e37_79b9_7f4a_7c15) % 2 ^ 64

-- the state after so many draws
abbrev pub state_after : ℕ → ℕ → ℕ
state_after zero state = state
state_after (suc n) state = stepped (state_after n state)

-- a number, exclusive-or itself shifted right so many places
abbrev pub folded_right : ℕ → ℕ → ℕ
folded_right places x = bit_xor x (x / 2 ^ places)

-- what is drawn of a state: three folds, and two products modulo 2 to the power 64 between them
abbrev pub mixed : ℕ → ℕ
mixed state = folded_right 31 (folded_right 27 (folded_right 30 state * 0xbf58_476d_1ce4_e5b9 % 2 ^ 64) * 0x94d0_49bb_1331_11eb % 2 ^ 64)

-- the number that is drawn first
abbrev pub drawn : ℕ → ℕ
drawn state = mixed (stepped state)

-- the bit that is drawn after n draws: the highest of its number
unfoldable pub drawn_bit : ℕ → ℕ → ℕ
drawn_bit state n = drawn (state_after n state) / 2 ^ 63

-- n drawn bits
abbrev pub drawn_bits : ℕ → ℕ → List ℕ
drawn_bits state n = map (drawn_bit state) (range_with_len 0 n)

-- a list once each of its first i places is exchanged with a drawn one from there on
abbrev pub exchanged_to : ℕ → ℕ → List ℕ → List ℕ
exchanged_to state zero places = places
exchanged_to state (suc i) places = swap (exchanged_to state i places) i (i + drawn (state_after i state) % (length places - i))

-- a list in drawn order
abbrev pub reordered : ℕ → List ℕ → List ℕ
reordered state places = exchanged_to state (length places) places
