use Rattle.code.proofs.Accepted.{facts_of}
use Rattle.code.proofs.Loading.{permutes}
use Rattle.code.proofs.interleaver.location.Goals as goal

pub returns-clause-permutes : goal.returns-clause-permutes
returns-clause-permutes c = permutes _ (facts_of c.args.plan.now)
