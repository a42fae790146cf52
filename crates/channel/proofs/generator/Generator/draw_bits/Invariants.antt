use Rattle.std.proofs.Common.{◌≡◌, ℕ, ◌<◌, get_or}
use Rattle.channel.specs.Drawing.{state_after, drawn_bit}
use Rattle.channel.proofs.generator.Generator.draw_bits.Given as goal

-- a draw is made for each place so far, which holds its bit
abbrev pub invariant-loop-place : goal.invariant-loop-place
invariant-loop-place l =
    (l.self.state ≡ state_after l.place-index l.initial.self.state)
    × ((k : ℕ) → k < l.place-index → get_or l.out k 0 ≡ drawn_bit l.initial.self.state k)
