-- The number of each fault of a line.
-- Assumes nothing.
use Rattle.std.specs.Prelude.{ℕ}
use Rattle.plan.specs.Faults.{chain_number}
use Rattle.lines.specs.declared.fault.LineFault.{LineFault}
use Rattle.lines.specs.declared.fault.LineFault.TheVariants.{Chain, Form, Order, Size}

-- a carried fault has its own number
abbrev pub line_number : LineFault → ℕ
line_number (Chain fault) = chain_number fault
line_number Form = 18
line_number Order = 19
line_number Size = 20
