use Rattle.std.proofs.Common.{◌≡◌, subst, rules}
use Rattle.plan.specs.Plans.{plan_scheme}
use Rattle.code.specs.Blocks.{block_scheme, block_bits}
use Rattle.code.specs.Numbers.{bits_of}
use Rattle.code.proofs.Accepted.{facts_of}
use Rattle.score.specs.Blocks.{value_at, block_score}
use Rattle.score.proofs.Turns.{takes_each, agreed_is, contradicted_is}
use Rattle.score.proofs.block.score_of.Goals as goal

pub returns : goal.returns
returns g c =
    let s = plan_scheme c.args.plan.now in
    let k = g.K.Kind.scale c.args.kind.now in
    let l = g.met.K.Kind.lawful c.args.kind.now in
    let f = facts_of c.args.plan.now in
    let values = value_at c.args.memory.now in
    let u = bits_of c.args.block.now in
    let x = c.score_steps.result in
    let made = c.in_ok-block.ensures.made in
    let same : block_score k (block_scheme c.in_ok-block.block) values (block_bits c.in_ok-block.block) ≡ block_score k s values u = λ i. block_score k (plan_scheme (made.0 i)) values (bits_of (made.1 i)) in
    let is : x ≡ block_score k s values u = subst (λ v. x ≡ v) same c.score_steps.ensures in
    record {
      answer = search rules;
      score = is;
      each = takes_each k s values l f u x is;
      agreed = agreed_is k s values l f u x is;
      contradicted = contradicted_is k s values l f u x is;
    }
