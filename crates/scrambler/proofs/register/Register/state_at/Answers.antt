use Rattle.std.proofs.Common.{◌-◌, ◌*◌, ap, ◌∙◌}
use Rattle.scrambler.specs.Shifts.{shifts}
use Rattle.scrambler.proofs.Shifting.{onward, state_below}
use Rattle.scrambler.proofs.register.Register.state_at.Goals as goal

pub shifted-requires-else-place-self : goal.shifted-requires-else-place-self
shifted-requires-else-place-self c = rw c.args.self.now.stands (state_below _)

pub returns-else-place-self : goal.returns-else-place-self
returns-else-place-self c =
    let register = c.args.self.now in
    let same = c.bits-width.ensures in
    c.shifted-else-place-self.ensures
    ∙ ap (λ w. shifts ((c.args.place - register.place) * w) register.state) same
    ∙ ap (shifts ((c.args.place - register.place) * register.width.bits)) register.stands
    ∙ onward register.width.bits register.place c.args.place c.if-place-self.false
