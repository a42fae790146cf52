use Rattle.std.proofs.Common.{◌≡◌}
use Rattle.channel.specs.Drawing.{state_after}
use Rattle.channel.specs.Fractions.{summed}
use Rattle.channel.proofs.generator.Generator.draw_normal.Given as goal

-- i fractions are drawn, and added up
abbrev pub invariant-loop : goal.invariant-loop
invariant-loop l = (l.self.state ≡ state_after l.counter l.initial.self.state) × (l.sum ≡ summed l.initial.self.state l.counter)
