-- A text of bits, sent block by block.
-- Assumes nothing.
use Rattle.std.specs.Prelude.{◌≡◌, ℕ, ◌<◌, true, false, List, ◌++◌, codes, length, Option}
use Rattle.std.specs.List.{flat_map, AllByRecursion}
use Rattle.bits_text.specs.Texts.{Says}
use Rattle.bits_text.specs.Readings.{At}
use Rattle.plan.specs.Faults.{chain_number}
use Rattle.plan.specs.Scheme.{Scheme}
use Rattle.scrambler.specs.Meaning.{Meaning}
use Rattle.scrambler.specs.declared.scrambler.Scrambler.{Ghosts}
use Rattle.sender.specs.Answers.{making_answer}
use Rattle.sender.specs.Scrambling.{fits}
use Rattle.sender.specs.Senders.{sender_scheme}
use Rattle.laboratory.specs.Sending.{Written}
use Rattle.laboratory.specs.Strays.{line_behind, StrayIn}
use Rattle.laboratory.specs.declared.text.TextSending.{TextSending}
use Rattle.laboratory.specs.declared.trouble.Trouble.{Trouble}
use Rattle.laboratory.specs.declared.trouble.Trouble.TheVariants.{Chain, Bits, Unfinished, Outside}

-- what a text says, cut into blocks of so many bits, and fewer left over
pub record LeftOver (bits : ℕ) (text : List ℕ) (count : ℕ) : Type 0 where
  pub bs : List (List ℕ)
  pub rest : List ℕ
  pub long : AllByRecursion (λ b. length b ≡ bits) bs
  pub said : Says text (flat_map (λ b. b) bs ++ rest)
  pub left : length rest ≡ count
  pub some : 0 < count
  pub short : count < bits

-- what is told where a text is not sent: its first byte that is no bit, the bits left over at its end, the number of a
-- question, or that a stream fails
abbrev pub TextRefused : Scheme → Meaning → List ℕ → Trouble → Type 0
TextRefused s m text (Bits name stray) = (name.now ≡ codes "the input") × StrayIn text stray
TextRefused s m text (Unfinished bits length) = (length ≡ s.block) × LeftOver s.block text bits
TextRefused s m text (Chain fault) = chain_number fault ≡ making_answer s m false
TextRefused s m text (Outside error) = Unit {0}
TextRefused s m text other = ⊥

-- this text has come: its bits are some blocks, which are sent, and those of the block in hand
pub record Holding {S : Type 0} {g : Ghosts S} (meaning : S → Meaning) (s : Scheme) (m : Meaning) (x : TextSending S g) (text : List ℕ) (bs : List (List ℕ)) (w v c d : Option (List ℕ)) : Type 0 where
  pub place : At x.reader text
  pub line : x.reader.line ≡ line_behind 1 text
  pub said : Says text (flat_map (λ b. b) bs ++ x.block.items)
  pub each : AllByRecursion (λ b. length b ≡ s.block) bs
  pub whole : x.length ≡ s.block
  pub some : 0 < s.block
  pub fit : fits s m ≡ true
  pub scheme : sender_scheme x.sending.sender ≡ s
  pub meant : meaning x.sending.sender.scrambler ≡ m
  pub written : Written s m bs x.sending.blocks w v c d
