-- The meanings of the two kinds of scrambler.
-- Assumes nothing.
use Rattle.std.specs.Prelude.{vec_items}
use Rattle.scrambler.specs.Meaning.{Meaning}
use Rattle.scrambler.specs.Shifts.{drawn_values}
use Rattle.scrambler.specs.declared.table.Table.{Table}
use Rattle.scrambler.specs.declared.register.Register.{Register}

-- a table means the values that it holds
abbrev pub table_meaning : Table → Meaning
table_meaning t = record { width = t.width.bits; values = vec_items t.values }

-- a register means the values drawn from the load on, wherever it stands
abbrev pub register_meaning : Register → Meaning
register_meaning r = record { width = r.width.bits; values = drawn_values r.width.bits }
