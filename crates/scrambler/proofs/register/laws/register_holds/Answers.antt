use Rattle.scrambler.proofs.Polynomial.{starts_with_one, obeys_polynomial}
use Rattle.scrambler.proofs.Periods.{has_period_511}
use Rattle.scrambler.proofs.register.laws.register_holds.Goals as goal

pub returns : goal.returns
returns c = record { first = starts_with_one; polynomial = obeys_polynomial; period = has_period_511 }
