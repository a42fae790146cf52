use Rattle.std.proofs.Common.{◌≡◌, ◌<◌, length, pos, ◌+ℤ◌, ◌≤ℤ◌}
use Rattle.curve.proofs.Counted.{EachDot}
use Rattle.curve.proofs.counting.dots_of.Given as goal

-- the ratios so far have their dots, and the next ratio is the one behind them
abbrev pub invariant-loop-decibels : goal.invariant-loop-decibels
invariant-loop-decibels l = record {
  ratio : l.decibels-counter ≡ l.run.from +ℤ pos (length l.dots.items);
  within : 0 < length l.dots.items → l.decibels-counter ≤ℤ l.run.to;
  each : EachDot l.run l.dots.items;
}
