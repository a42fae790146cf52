-- Blocks of bits as lines on the air.
-- Assumes nothing.
use Rattle.std.specs.Prelude.{◌≡◌, ℕ, zero, suc, ◌+◌, ◌-◌, ◌*◌, ◌^◌, min, List, [], ◌∷◌, ◌++◌, length, Option}
use Rattle.std.specs.List.{flat_map, AllByRecursion}
use Rattle.std.specs.Io.KnownBytes.{Appends}
use Rattle.air_text.specs.Lines.{air_text}
use Rattle.bits_text.specs.Texts.{Says, block_line}
use Rattle.channel.specs.Drawing.{state_after, drawn_bits}
use Rattle.code.specs.Numbers.{bits_of}
use Rattle.plan.specs.Faults.{chain_number}
use Rattle.plan.specs.Scheme.{Scheme}
use Rattle.scrambler.specs.Meaning.{Meaning}
use Rattle.sender.specs.Transmission.{transmission}
use Rattle.laboratory.specs.declared.trouble.Trouble.{Trouble}
use Rattle.laboratory.specs.declared.trouble.Trouble.TheVariants.{Chain, Outside}

-- the number behind n, in 64 bits
abbrev pub count_on : ℕ → ℕ
count_on n = min (n + 1) (2 ^ 64 - 1)

-- the number of the last of some blocks, the one before them having n
abbrev pub number_after : ℕ → List (List ℕ) → ℕ
number_after n [] = n
number_after n (b ∷ bs) = number_after (count_on n) bs

-- the text of blocks on the air, each with its number
abbrev pub air_from : Scheme → Meaning → ℕ → List (List ℕ) → List ℕ
air_from s m n [] = []
air_from s m n (b ∷ bs) = air_text (count_on n) (transmission s m (bits_of b)) ++ air_from s m (count_on n) bs

-- numbers are counted from 1
abbrev pub on_air : Scheme → Meaning → List (List ℕ) → List ℕ
on_air s m bs = air_from s m 0 bs

-- the lines of their bits
abbrev pub bit_lines : List (List ℕ) → List ℕ
bit_lines bs = flat_map block_line bs

-- so many blocks of so many bits, drawn one behind the other
abbrev pub drawn_blocks : ℕ → ℕ → ℕ → List (List ℕ)
drawn_blocks bits seed zero = []
drawn_blocks bits seed (suc n) = drawn_blocks bits seed n ++ (drawn_bits (state_after (n * bits) seed) bits ∷ [])

-- what a text says, cut into blocks of so many bits, with nothing left over
pub record Cut (bits : ℕ) (text : List ℕ) (bs : List (List ℕ)) : Type 0 where
  pub long : AllByRecursion (λ b. length b ≡ bits) bs
  pub said : Says text (flat_map (λ b. b) bs)

-- what is told where nothing can be sent: the number of a question, or that the output fails
abbrev pub Unsent : ℕ → Trouble → Type 0
Unsent answer (Chain fault) = chain_number fault ≡ answer
Unsent answer (Outside error) = Unit {0}
Unsent answer other = ⊥

-- some blocks have been sent: their last number, and what has been written
pub record Written (s : Scheme) (m : Meaning) (bs : List (List ℕ)) (number : ℕ) (w v c d : Option (List ℕ)) : Type 0 where
  pub last : number ≡ number_after 0 bs
  pub air : Appends w v (on_air s m bs)
  pub bits : Appends c d (bit_lines bs)
