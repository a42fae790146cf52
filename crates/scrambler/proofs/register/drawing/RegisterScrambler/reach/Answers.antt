use Rattle.std.proofs.Common.{sym, refl}
use Rattle.scrambler.specs.Bounds.{length_drawn}
use Rattle.scrambler.proofs.register.drawing.RegisterScrambler.reach.Goals as goal

pub returns : goal.returns
returns c = record { value = sym (length_drawn c.args.self.now.width.bits); kept = refl }
