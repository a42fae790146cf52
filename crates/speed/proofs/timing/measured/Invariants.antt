use Rattle.std.proofs.Common.{◌≡◌, false}
use Rattle.speed.specs.Tables.{Begun, is_enough}
use Rattle.speed.proofs.timing.measured.Given as goal

-- so many looks are taken, and a further one is begun
abbrev pub invariant-loop : goal.invariant-loop
invariant-loop l = record {
  count : l.taken.looks ≡ l.counter;
  begun : Begun l.taken;
  more : is_enough l.taken ≡ false;
}
