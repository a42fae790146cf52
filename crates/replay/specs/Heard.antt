-- Which call of a list touched a symbol last, and whether it heard a block's symbol.
-- Assumes nothing.
use Rattle.std.specs.Prelude.{◌≡◌, ℕ, ◌/◌, ◌<◌, ◌≤◌, Bool, false, cond, ◌&&◌, List, [], ◌∷◌, Some, None, Option, ◌==◌}
use Rattle.plan.specs.Scheme.{Scheme}
use Rattle.search.specs.Looking.{Lengths}
use Rattle.sender.specs.Transmission.{symbols, on_air}
use Rattle.receiver.specs.Views.{View}
use Rattle.replay.specs.declared.call.Call.{Call}
use Rattle.replay.specs.declared.call.Call.TheVariants.{Hear, Note, Blank, Look}
use Rattle.replay.specs.Ledger.{accepted}

-- hear and blank touch their symbol, note the symbol that takes its location, look none
abbrev pub touches : Scheme → ℕ → Call → Bool
touches s symbol (Hear lent place index weight) = place == symbol
touches s symbol (Note lent location value) = location / s.bits == symbol
touches s symbol (Blank lent place) = place == symbol
touches s symbol (Look lent) = false

module _ (v : View) (whole : Lengths) where
  -- the last accepted call of a list that touches a symbol, or else the one before the list
  abbrev pub last_after : ℕ → Option Call → List Call → Option Call
  last_after symbol before [] = before
  last_after symbol before (c ∷ cs) = last_after symbol (cond (touches v.scheme symbol c && accepted v whole c) (Some c) before) cs

  -- the last accepted call of a list that touches a symbol
  abbrev pub last_touching : ℕ → List Call → Option Call
  last_touching symbol calls = last_after symbol None calls

  -- a call that heard exactly the symbol that the block u sends at this place, with a weight of 1 or more
  abbrev pub HeardExactly : (ℕ → Bool) → ℕ → Option Call → Type 0
  HeardExactly u symbol (Some (Hear lent place index weight)) = (index ≡ on_air v.scheme v.meaning u symbol) × (1 ≤ weight)
  HeardExactly u symbol (Some (Note lent location value)) = ⊥
  HeardExactly u symbol (Some (Blank lent place)) = ⊥
  HeardExactly u symbol (Some (Look lent)) = ⊥
  HeardExactly u symbol None = ⊥

  -- each symbol of the block's transmission was last touched by a call that heard exactly it
  abbrev pub HeardAll : List Call → (ℕ → Bool) → Type 0
  HeardAll calls u = (symbol : ℕ) → symbol < symbols v.scheme → HeardExactly u symbol (last_touching symbol calls)
