-- What the look after a list of calls promises.
-- Assumes nothing.
use Rattle.std.specs.Prelude.{◌≡◌, ℕ, Bool, List}
use Rattle.score.specs.Blocks.{value_at}
use Rattle.score.specs.Scale.{Scale}
use Rattle.search.specs.Looking.{Found, Lengths}
use Rattle.sender.specs.Transmission.{transmission}
use Rattle.receiver.specs.Views.{View}
use Rattle.replay.specs.declared.call.Call.{Call}
use Rattle.replay.specs.Heard.{HeardAll}
use Rattle.replay.specs.Ledger.{ledger}

pub record Promise {S : Type 0} (k : Scale S) (v : View) (whole : Lengths) (calls : List Call) (u : ℕ → Bool) (score : S) : Type 0 where
  -- the block is the one that the tie rule picks against the ledger, the score is its own, and every other block scores no better
  pub best : Found k v.scheme (value_at (ledger v whole calls)) u score
  -- a transmission of which every symbol was last heard exactly comes back, symbol for symbol
  pub returned : (w : ℕ → Bool) → HeardAll v whole calls w → transmission v.scheme v.meaning u ≡ transmission v.scheme v.meaning w
