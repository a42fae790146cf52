-- What the code, the interleaver and the mapping are for: laws above the definitions.
-- Assumes nothing.
use Rattle.std.specs.Prelude.{◌≡◌, ℕ, ◌+◌, ◌^◌, ◌<◌, Bool, Some, None, ◌≢◌}
use Rattle.plan.specs.Scheme.{Scheme, sent_length}
use Rattle.code.specs.Coding.{around, coded}
use Rattle.code.specs.Mapping.{symbol_of, number_of}
use Rattle.code.specs.Sending.{location}

-- the code bites its tail: rotating the block by r bits rotates the code word by r pairs
abbrev pub TailBiting : Scheme → Type 0
TailBiting s = (u : ℕ → Bool) (r t : ℕ) → coded s (λ i. around s u (i + r)) t ≡ coded s u (t + r)

-- every location below the sent length is that of exactly one sent bit
pub record Permutes (s : Scheme) : Type 0 where
  pub reached : (l : ℕ) → l < sent_length s → (n : ℕ) × (n < sent_length s) × (location s n ≡ l)
  pub apart : (m n : ℕ) → m < sent_length s → n < sent_length s → location s m ≡ location s n → m ≡ n

-- mapping back undoes mapping, answers only bits that map to the symbol, and tells a symbol that no bits map to
pub record Inverts (q : ℕ) : Type 0 where
  pub undoes : (x : ℕ) → x < 2 ^ q → number_of q (symbol_of q x) ≡ Some x
  pub right : (x y : ℕ) → number_of q y ≡ Some x → (x < 2 ^ q) × (symbol_of q x ≡ y)
  pub outside : (y : ℕ) → ((x : ℕ) → x < 2 ^ q → symbol_of q x ≢ y) → number_of q y ≡ None
