-- Which calls a receiver gets of one block, and how they leave the air.
-- Assumes nothing.
use Rattle.std.specs.Prelude.{ℕ, zero, suc, ◌%◌, Bool, cond, ◌&&◌, List, [], ◌∷◌, length, ◌==◌, nat_lt, slice_index}
use Rattle.std.specs.List.{range_with_len, flat_map}
use Rattle.channel.specs.Airs.{arrived, aired}
use Rattle.channel.specs.Drawing.{state_after, drawn, reordered}
use Rattle.channel.specs.Plane.{phase_point, decided}
use Rattle.channel.specs.declared.air.Air.{Air}
use Rattle.channel.specs.declared.hearing.Heard.{Heard}
use Rattle.plan.specs.Scheme.{Scheme, sent_length}
use Rattle.replay.specs.declared.call.Call.{Call}
use Rattle.replay.specs.declared.call.Call.TheVariants.{Hear, Blank}
use Rattle.scrambler.specs.Meaning.{Meaning}
use Rattle.sender.specs.Transmission.{value_for}

-- the air after so many symbols
abbrev pub air_after : ℕ → Air → Air
air_after zero air = air
air_after (suc n) air = aired (air_after n air)

-- the air after so many draws, which fade nothing
abbrev pub drawn_on : ℕ → Air → Air
drawn_on n air = record { generator = record { state = state_after n air.generator.state }; amplitude = air.amplitude; noise = air.noise }

-- the number below 64 that is drawn for a symbol
abbrev pub chance : Air → ℕ
chance air = drawn air.generator.state % 64

-- of 64 symbols, one is never heard, one is blanked, and eight are heard again
abbrev pub is_never_heard : Air → Bool
is_never_heard air = chance air == 0

abbrev pub is_blanked : Air → Bool
is_blanked air = chance air == 1

abbrev pub is_heard_again : Air → Bool
is_heard_again air = nat_lt 1 (chance air) && nat_lt (chance air) 10

-- the air after the symbol's turn: to be heard again takes air
abbrev pub left_air : Air → Air
left_air air = cond (is_heard_again air) (aired (drawn_on 1 air)) (drawn_on 1 air)

-- the air at turn i, from the air at the first turn
abbrev pub turn_air : Air → ℕ → Air
turn_air air zero = air
turn_air air (suc i) = left_air (turn_air air i)

-- the air once n symbols have been heard and their order has been drawn
abbrev pub shuffled_air : ℕ → Air → Air
shuffled_air n air = drawn_on n (air_after n air)

-- the place of the symbol whose turn is i
abbrev pub place_of : ℕ → Air → ℕ → ℕ
place_of n air i = slice_index (reordered (air_after n air).generator.state (range_with_len 0 n)) i

-- the air that the calls of n symbols leave
unfoldable pub air_behind : ℕ → Air → Air
air_behind n air = turn_air (shuffled_air n air) n

module _ (s : Scheme) (m : Meaning) (indices : List ℕ) where
  -- what is heard of the symbol at a place
  abbrev pub heard_at : Air → ℕ → Heard
  heard_at air place = decided s.bits (value_for s m place) (arrived air (phase_point (slice_index indices place)))

  -- the call that hears it
  unfoldable pub hearing : Air → ℕ → Call
  hearing air place = Hear (sent_length s) place (heard_at air place).index (heard_at air place).weight

  -- the same as the air goes over all symbols in the order of sending
  abbrev pub first_hearing : Air → ℕ → Call
  first_hearing air place = hearing (air_after place air) place

  -- what comes behind the first hearing of a symbol
  abbrev pub second_call : Air → ℕ → List Call
  second_call air place =
      cond (is_blanked air) (Blank (sent_length s) place ∷ []) (cond (is_heard_again air) (hearing (drawn_on 1 air) place ∷ []) [])

  -- the calls of a symbol
  abbrev pub symbol_calls : Air → ℕ → Call → List Call
  symbol_calls air place first = cond (is_never_heard air) [] (first ∷ second_call air place)

  -- the calls of turn i
  unfoldable pub turn_calls : Air → ℕ → List Call
  turn_calls air i =
      let n = length indices in
      symbol_calls (turn_air (shuffled_air n air) i) (place_of n air i) (first_hearing air (place_of n air i))

  -- all symbols are heard in the order of sending; the calls come in drawn order
  unfoldable pub calls : Air → List Call
  calls air = flat_map (turn_calls air) (range_with_len 0 (length indices))
