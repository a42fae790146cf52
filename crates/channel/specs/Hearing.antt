-- Which on-air indices can stand at a place.
-- Assumes nothing.
use Rattle.std.specs.Prelude.{◌≡◌, ℕ, ◌^◌, ◌<◌, ◌≤◌}
use Rattle.code.specs.Mapping.{symbol_of}
use Rattle.sender.specs.Scrambling.{scrambled}
use Rattle.channel.specs.declared.hearing.Heard.{Heard}

-- the index of the q bits that write n, where the scrambler has this value
abbrev pub candidate : ℕ → ℕ → ℕ → ℕ
candidate q value n = scrambled q (symbol_of q n) value

-- an index that sending can give there: that of some q bits
abbrev pub Sendable : ℕ → ℕ → ℕ → Type 0
Sendable q value index = (n : ℕ) × (n < 2 ^ q) × (index ≡ candidate q value n)

-- what is heard of a symbol: an index that sending can give, one of eight phases, and a weight from 1 to 32,767
pub record Hearable (q value : ℕ) (h : Heard) : Type 0 where
  pub sendable : Sendable q value h.index
  pub phase : h.index < 8
  pub weight_low : 1 ≤ h.weight
  pub weight_high : h.weight ≤ 32767
