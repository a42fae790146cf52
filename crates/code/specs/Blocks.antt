-- A block by its plan's coding scheme and its bits.
-- Assumes nothing.
use Rattle.std.specs.Prelude.{ℕ, Bool}
use Rattle.plan.specs.Plans.{plan_scheme}
use Rattle.plan.specs.Scheme.{Scheme}
use Rattle.code.specs.Numbers.{bits_of}
use Rattle.code.specs.declared.block.Block.{Block}

abbrev pub block_scheme : Block → Scheme
block_scheme b = plan_scheme b.plan.now

abbrev pub block_bits : Block → ℕ → Bool
block_bits b = bits_of b.bytes.now
