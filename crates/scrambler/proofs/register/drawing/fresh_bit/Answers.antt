use Rattle.scrambler.proofs.Shifting.{fresh_coded}
use Rattle.scrambler.proofs.register.drawing.fresh_bit.Goals as goal

pub returns : goal.returns
returns c = fresh_coded c.args.state
