-- Blocks are read as they were written, and a reader is always behind some text.
-- Assumes nothing.
use Rattle.std.specs.Prelude.{◌≡◌, ℕ, ◌<◌, List, length}
use Rattle.std.specs.List.{flat_map, AllByRecursion}
use Rattle.bits_text.specs.Blocks.{blocks}
use Rattle.bits_text.specs.Readings.{At}
use Rattle.bits_text.specs.Texts.{Bits, block_line, Says}
use Rattle.bits_text.specs.declared.reader.BitsReader.{BitsReader}

-- the line of a block says its bits, and whatever it says is them
abbrev pub ComesBack : Type 0
ComesBack = (block : List ℕ) → Bits block → Says (block_line block) block × ((other : List ℕ) → Says (block_line block) other → other ≡ block)

-- a block that is no empty one
abbrev pub Filled : List ℕ → Type 0
Filled block = (0 < length block) × Bits block

-- the lines of some blocks have these blocks, and no others
abbrev pub AllComeBack : Type 0
AllComeBack = (bs : List (List ℕ)) → AllByRecursion Filled bs → blocks (flat_map block_line bs) ≡ bs

-- each reader stands behind a text that says some bits
abbrev pub EachStands : Type 0
EachStands = (r : BitsReader) → (text : List ℕ) × (bits : List ℕ) × At r text × Says text bits
