use Rattle.std.proofs.Common.{◌≡◌}
use Rattle.std.specs.List.Sorted.{IsPermutation}
use Rattle.channel.specs.Drawing.{state_after, exchanged_to}
use Rattle.channel.proofs.generator.Generator.shuffle.Given as goal

-- i draws are made, the first i places are exchanged, and the places are the same in another order
abbrev pub invariant-loop-i : goal.invariant-loop-i
invariant-loop-i l =
    (l.self.state ≡ state_after l.i l.initial.self.state)
    × (l.places ≡ exchanged_to l.initial.self.state l.i l.initial.places)
    × IsPermutation l.initial.places l.places
