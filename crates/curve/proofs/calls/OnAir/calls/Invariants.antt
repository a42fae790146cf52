use Rattle.std.proofs.Common.{◌≡◌, length}
use Rattle.std.specs.List.{range_with_len, flat_map}
use Rattle.plan.specs.Plans.{plan_scheme}
use Rattle.scrambler.specs.Meanings.{table_meaning}
use Rattle.curve.specs.Calls.{shuffled_air, turn_air, turn_calls}
use Rattle.curve.proofs.calls.OnAir.calls.Given as goal

-- the turns so far have been taken
abbrev pub invariant-loop-place : goal.invariant-loop-place
invariant-loop-place l = record {
  listed : l.calls.items ≡ flat_map (turn_calls (plan_scheme l.self.plan.now) (table_meaning l.fn.table) l.self.indices.now l.fn.air) (range_with_len 0 l.place-index);
  air : l.air ≡ turn_air (shuffled_air (length l.self.indices.now) l.fn.air) l.place-index;
  table : table_meaning l.table ≡ table_meaning l.fn.table;
}
