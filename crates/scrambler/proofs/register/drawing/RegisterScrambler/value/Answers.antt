use Rattle.std.proofs.Common.{◌%◌, ◌^◌, refl, ap, ◌∙◌}
use Rattle.scrambler.proofs.Reaching.{drawn_value, drawn_none}
use Rattle.scrambler.proofs.register.drawing.RegisterScrambler.value.Goals as goal

pub returns-then-place-ge-REACH : goal.returns-then-place-ge-REACH
returns-then-place-ge-REACH c =
    record { value = drawn_none c.args.self.now.width.bits c.args.place c.if-place-ge-REACH.true; kept = refl }

pub invariant_of-self : goal.invariant_of-self
invariant_of-self c = record { stands = c.state_at-state.ensures }

pub returns : goal.returns
returns c =
    let width = c.args.self.now.width.bits in
    let drawn = c.low_bits.ensures ∙ ap (λ r. r % 2 ^ width) c.state_at-state.ensures in
    record { value = drawn_value width c.args.place _ c.if-place-ge-REACH.false drawn; kept = refl }
