use Rattle.std.proofs.Common.{sym, refl, ap, ◌∙◌, arith}
use Rattle.scrambler.specs.Shifts.{shift, shifts}
use Rattle.scrambler.proofs.Shifting.{shifts_more, shifts_below}
use Rattle.scrambler.proofs.register.drawing.shifted.Goals as goal

pub loop-init : goal.loop-init
unfolding shifts
loop-init c = refl

pub shifted_once-now-requires : goal.shifted_once-now-requires
shifted_once-now-requires c = rw c.loop.invariant (shifts_below c.loop.counter c.args.state c.requires)

pub loop-preserved : goal.loop-preserved
loop-preserved c = c.shifted_once-now.ensures ∙ ap shift c.loop.invariant ∙ sym (shifts_more c.loop.counter c.args.state)

pub returns : goal.returns
returns c = c.loop.invariant ∙ ap (λ n. shifts n c.args.state) (omega arith)
