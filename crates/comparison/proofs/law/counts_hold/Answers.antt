use Rattle.comparison.proofs.All.{counts_all}
use Rattle.comparison.proofs.law.counts_hold.Goals as goal

pub returns : goal.returns
returns c = counts_all
