-- One block, from drawn bits to the block that is shown and its score.
-- Assumes nothing.
use Rattle.std.specs.Prelude.{◌≡◌, ℕ, ◌*◌, ◌/◌, ◌^◌, List, ℤ, replicate}
use Rattle.channel.specs.Drawing.{drawn_bits}
use Rattle.channel.specs.declared.air.Air.{Air}
use Rattle.code.specs.Numbers.{bits_of}
use Rattle.laboratory.specs.Tabling.{first_drawn}
use Rattle.plan.specs.Scheme.{Scheme, sent_length}
use Rattle.receiver.specs.Views.{View}
use Rattle.replay.specs.Ledger.{ledger}
use Rattle.replay.specs.Promise.{Promise}
use Rattle.replay.specs.declared.call.Call.{Call}
use Rattle.score.specs.Blocks.{value_at, block_score}
use Rattle.score.specs.Kinds.{total_scale}
use Rattle.scrambler.specs.Meaning.{Meaning}
use Rattle.scrambler.specs.Shifts.{drawn_values}
use Rattle.search.specs.Looking.{Lengths, shown}
use Rattle.search.specs.Searching.{memory}
use Rattle.sender.specs.Scrambling.{needed_width}
use Rattle.sender.specs.Transmission.{symbols, transmission}
use Rattle.curve.specs.Calls.{drawn_on, calls, air_behind}
use Rattle.curve.specs.declared.sent.Sent.{Sent}
use Rattle.curve.specs.declared.trial.Trial.{Trial}

-- the lengths of memories that are just long enough
abbrev pub enough : Scheme → Lengths
enough s = record { values = sent_length s; block = s.block; old = 2 ^ memory s; new = 2 ^ memory s; marks = s.block * 2 ^ memory s / 8 }

-- the register of the width that the symbols need
abbrev pub register_of : Scheme → Meaning
register_of s = record { width = needed_width s.bits; values = drawn_values (needed_width s.bits) }

-- a table of its values at the places of a frame
abbrev pub table_of : Scheme → Meaning
table_of s = record { width = needed_width s.bits; values = first_drawn (needed_width s.bits) s.frame }

-- a block of drawn bits, and its on-air indices
abbrev pub drawn_block : Scheme → ℕ → List ℕ
drawn_block s state = drawn_bits state s.block

abbrev pub drawn_indices : Scheme → ℕ → List ℕ
drawn_indices s state = transmission s (register_of s) (bits_of (drawn_block s state))

pub record IsSent (s : Scheme) (state : ℕ) (x : Sent) : Type 0 where
  pub block : x.block.items ≡ drawn_block s state
  pub indices : x.indices.items ≡ drawn_indices s state

-- what a receiver with all memory shows for calls, and its score
module _ (v : View) (heard : List Call) where
  abbrev pub values : ℕ → ℤ
  values i = value_at (ledger v (enough v.scheme) heard) i

  unfoldable pub decoded_block : List ℕ
  decoded_block = shown total_scale v.scheme values (replicate v.scheme.block 0)

  unfoldable pub decoded_score : ℕ
  decoded_score = block_score total_scale v.scheme values (bits_of decoded_block)

-- the receiver's view of a trial
abbrev pub trial_view : Scheme → View
trial_view s = record { scheme = s; meaning = table_of s }

-- the calls of a trial: the block is drawn first
abbrev pub trial_calls : Scheme → Air → List Call
trial_calls s air = calls s (table_of s) (drawn_indices s air.generator.state) (drawn_on s.block air)

-- the air that a trial leaves
abbrev pub next_air : Scheme → Air → Air
next_air s air = air_behind (symbols s) (drawn_on s.block air)

-- the block was drawn from this air, and what is shown is the best block for the calls that were heard of it
pub record IsTrial (s : Scheme) (air : Air) (x : Trial) : Type 0 where
  pub sent : x.sent.items ≡ drawn_block s air.generator.state
  pub shown : x.shown.items ≡ decoded_block (trial_view s) (trial_calls s air)
  pub score : x.score ≡ decoded_score (trial_view s) (trial_calls s air)
  pub best : Promise total_scale (trial_view s) (enough s) (trial_calls s air) (bits_of x.shown.items) x.score
