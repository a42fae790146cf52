use Rattle.std.proofs.Common.{◌≡◌}
use Rattle.scrambler.specs.Meanings.{register_meaning}
use Rattle.scrambler.specs.Shifts.{drawn_values}
use Rattle.laboratory.specs.Tabling.{first_drawn}
use Rattle.laboratory.proofs.table.register_values.Given as goal

-- the values at the places so far are listed, and the register's meaning stays
abbrev pub invariant-loop-place : goal.invariant-loop-place
invariant-loop-place l = record {
  listed : l.values.items ≡ first_drawn l.fn.width l.place;
  meaning : register_meaning l.register ≡ record { width = l.fn.width; values = drawn_values l.fn.width };
}
