use Rattle.scrambler.proofs.Reaching.{width_high}
use Rattle.scrambler.proofs.Shifting.{low_coded}
use Rattle.scrambler.proofs.width.Width.low_bits.Goals as goal

pub returns : goal.returns
returns c = low_coded c.args.state c.args.self.bits (width_high c.args.self.bits c.args.self.fits)
