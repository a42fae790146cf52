-- Values: what the receiver heard at a location. A positive one says bit 0, a negative one bit 1, zero nothing.
-- Assumes nothing.
use Rattle.std.specs.Prelude.{ℕ, zero, suc, Bool, false, cond, not, ℤ, pos, negsuc, unsigned_abs}

-- the value says the other bit; any other value is agreed
abbrev pub contradicted : ℤ → Bool → Bool
contradicted (pos zero) bit = false
contradicted (pos (suc n)) bit = bit
contradicted (negsuc n) bit = not bit

-- a contradicted value weighs its size, an agreed one nothing
abbrev pub weight : ℤ → Bool → ℕ
weight value bit = cond (contradicted value bit) (unsigned_abs value) 0
