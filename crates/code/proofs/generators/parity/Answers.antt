use Rattle.std.proofs.Common.{◌≡◌, cond, eqb, ap, ◌∙◌}
use Rattle.plan.specs.Plans.{plan_scheme}
use Rattle.code.proofs.Accepted.{facts_of}
use Rattle.code.proofs.Windows.{pair_by_masks}
use Rattle.code.proofs.generators.parity.Goals as goal

pub returns : goal.returns
returns c =
    let s = plan_scheme c.args.plan.now in
    let k : c.parts.result.now.constraint ≡ s.constraint = ap (λ p. p.constraint) c.parts.ensures in
    let masks : c.generators-first.result ≡ cond (eqb s.constraint 7) (109, 79) (285, 431) =
    c.generators-first.ensures ∙ ap (λ n. cond (eqb n 7) (109, 79) (285, 431)) k in
    pair_by_masks s.constraint c.args.window c.generators-first.result _ _ (facts_of c.args.plan.now).constraint masks c.is_odd.ensures c.is_odd-2.ensures
