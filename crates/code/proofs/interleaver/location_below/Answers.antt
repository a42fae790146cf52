use Rattle.std.proofs.Common.{◌*◌, ◌%◌, ap, arith}
use Rattle.plan.specs.Plans.{plan_scheme}
use Rattle.code.specs.Sending.{location}
use Rattle.code.proofs.Accepted.{facts_of}
use Rattle.code.proofs.Loading.{product_fits}
use Rattle.code.proofs.interleaver.location_below.Goals as goal

pub overflow_mul-result : goal.overflow_mul-result
overflow_mul-result c =
    let s = plan_scheme c.args.plan.now in
    let same = ap (λ p. c.args.n * p.increment) c.parts.ensures in
    omega (arith, same, product_fits s (facts_of c.args.plan.now) c.args.n c.requires)

pub returns-clause-value : goal.returns-clause-value
unfolding location
returns-clause-value c = λ i. c.args.n * (c.parts.ensures i).increment % c.sent_length.ensures i
