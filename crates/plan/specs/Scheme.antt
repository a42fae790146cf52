-- A coding scheme by its seven parts: what every definition of the chain takes.
-- Assumes nothing.
use Rattle.std.specs.Prelude.{ℕ, ◌*◌, ◌/◌, List, length}

pub record Scheme : Type 0 where
  -- the constraint length k
  pub constraint : ℕ
  -- the period p: how many pairs of coded bits one run of the send list covers
  pub period : ℕ
  -- the send list
  pub entries : List ℕ
  -- the block length B
  pub block : ℕ
  -- the bits of a symbol q
  pub bits : ℕ
  -- the data symbols of a frame F
  pub frame : ℕ
  -- the increment
  pub increment : ℕ

-- the sent length N: the send list runs once for each period of the block
abbrev pub sent_length : Scheme → ℕ
sent_length s = s.block / s.period * length s.entries
