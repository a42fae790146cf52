use Rattle.std.proofs.Common.{◌≡◌, map}
use Rattle.std.specs.List.{range_with_len}
use Rattle.plan.specs.Plans.{plan_scheme}
use Rattle.scrambler.specs.Meanings.{table_meaning}
use Rattle.curve.specs.Calls.{air_after, first_hearing}
use Rattle.curve.proofs.calls.OnAir.hearings.Given as goal

-- the symbols at the places so far have been heard
abbrev pub invariant-loop-place : goal.invariant-loop-place
invariant-loop-place l = record {
  listed : l.hearings.items ≡ map (first_hearing (plan_scheme l.self.plan.now) (table_meaning l.fn.table) l.self.indices.now l.fn.air) (range_with_len 0 l.place);
  air : l.air ≡ air_after l.place l.fn.air;
  table : table_meaning l.table ≡ table_meaning l.fn.table;
}
