-- Reading the blocks of a text a line at a time.
-- Assumes nothing.
use Rattle.std.specs.Prelude.{◌≡◌, ℕ, ◌+◌, ◌-◌, ◌^◌, ◌≤◌, max, ◌⊎◌, codes, length, Bool, true, false, cond, List, [], ◌∷◌, ◌++◌, Some, Ok, Err, Option, Result, if◌then◌else◌}
use Rattle.std.specs.Io.Iter.{bytes_left, bytes_remaining}
use Rattle.bits_text.specs.Texts.{Says}
use Rattle.bits_text.specs.Readings.{At}
use Rattle.bits_text.specs.Blocks.{blocks_from, blocks}
use Rattle.bits_text.specs.declared.reader.BitsReader.{BitsReader}
use Rattle.plan.specs.declared.fault.ChainFault.TheVariants.{OutOfMemory}
use Rattle.laboratory.specs.Strays.{line_behind, StrayIn}
use Rattle.laboratory.specs.declared.counting.BlockLine.{BlockLine}
use Rattle.laboratory.specs.declared.counting.Blocks.{Blocks}
use Rattle.laboratory.specs.declared.trouble.Trouble.{Trouble}
use Rattle.laboratory.specs.declared.trouble.Trouble.TheVariants.{Chain, Bits, Endless, Outside}

-- these bytes of the line in hand have come
pub record Holds (b : BlockLine) (line : List ℕ) : Type 0 where
  pub place : At b.reader line
  pub said : Says line b.bits.items

-- one byte more of a line: true where it ends a block's line, with these bits
abbrev pub LineTaken : List ℕ → ℕ → BlockLine → Result Bool Trouble → Type 0
LineTaken line byte new (Ok true) = (rest : List ℕ) → blocks_from line (byte ∷ rest) ≡ new.bits.items ∷ blocks_from [] rest
LineTaken line byte new (Ok false) = (more : List ℕ) × Holds new more × ((rest : List ℕ) → blocks_from line (byte ∷ rest) ≡ blocks_from more rest)
LineTaken line byte new (Err e) = Unit {0}

-- the bytes of the text that are still to come, where they are known
abbrev pub left : {R : Type 0} → (R → Option (List ℕ)) → Blocks R → Option (List ℕ)
left remaining b = if b.ended then Some [] else bytes_remaining remaining b.bytes

-- how many steps are left at most
abbrev pub steps_left : {R : Type 0} → Blocks R → ℕ
steps_left b = cond b.ended 0 (1 + bytes_left b.bytes)

-- these bytes of the line in hand have come, and these of the text are still to come
pub record Stands {R : Type 0} (remaining : R → Option (List ℕ)) (b : Blocks R) (line xs : List ℕ) : Type 0 where
  pub holds : Holds b.line line
  pub rest : left remaining b ≡ Some xs

-- one step: it ends a block's line, or the blocks to come stay the same
abbrev pub Stepped : {R : Type 0} → (R → Option (List ℕ)) → List ℕ → List ℕ → Blocks R → Result Bool Trouble → Type 0
Stepped remaining line xs new (Ok true) =
    (ys : List ℕ) × (left remaining new ≡ Some ys) × (blocks_from line xs ≡ new.line.bits.items ∷ blocks_from [] ys)
Stepped remaining line xs new (Ok false) =
    (more : List ℕ) × (ys : List ℕ) × Stands remaining new more ys × (blocks_from line xs ≡ blocks_from more ys)
Stepped remaining line xs new (Err e) = Unit {0}

-- the next block and those behind it, or no block and no text
abbrev pub Advanced : {R : Type 0} → (R → Option (List ℕ)) → List ℕ → Blocks R → Result Bool Trouble → Type 0
Advanced remaining xs new (Ok true) = (ys : List ℕ) × (left remaining new ≡ Some ys) × (blocks xs ≡ new.line.bits.items ∷ blocks ys)
Advanced remaining xs new (Ok false) = (left remaining new ≡ Some []) × (blocks xs ≡ [])
Advanced remaining xs new (Err e) = Unit {0}

-- the reader stands behind this text, which says some bits, and knows its line
pub record Behind (r : BitsReader) (text : List ℕ) : Type 0 where
  pub place : At r text
  pub bits : List ℕ
  pub said : Says text bits
  pub line : r.line ≡ line_behind 1 text

-- so much of a whole text is read that the rest is what is still to come
pub record Reads {R : Type 0} (remaining : R → Option (List ℕ)) (b : Blocks R) (whole : List ℕ) : Type 0 where
  pub text : List ℕ
  pub rest : List ℕ
  pub left : left remaining b ≡ Some rest
  pub cut : whole ≡ text ++ rest
  pub behind : b.ended ≡ false → Behind b.line.reader text

-- no comment goes on into what is still to come
abbrev pub Clear : {R : Type 0} → Blocks R → Type 0
Clear b = b.ended ≡ false → b.line.reader.in_comment ≡ false

-- what is told where a text of this name cannot be read on: its first byte that is no bit, want of memory, or that it fails
abbrev pub ReadRefused : List ℕ → List ℕ → Trouble → Type 0
ReadRefused called text (Bits name stray) = (name.now ≡ called) × StrayIn text stray
ReadRefused called text (Chain fault) = fault ≡ OutOfMemory
ReadRefused called text (Outside error) = Unit {0}
ReadRefused called text other = ⊥

-- what is told where two texts are not counted: what is told of either, or that one has more blocks than 64 bits can count
abbrev pub CountRefused : List ℕ → List ℕ → Trouble → Type 0
CountRefused sent shown Endless = 2 ^ 64 - 1 ≤ max (length (blocks sent)) (length (blocks shown))
CountRefused sent shown other = ReadRefused (codes "the first file") sent other ⊎ ReadRefused (codes "the second file") shown other
