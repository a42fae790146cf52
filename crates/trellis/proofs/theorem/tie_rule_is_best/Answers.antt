use Rattle.trellis.proofs.Start.{picked_is_best}
use Rattle.trellis.proofs.theorem.tie_rule_is_best.Goals as goal

pub returns : goal.returns
returns g c = picked_is_best
