use Rattle.std.proofs.Common.{◌≡◌, suc, ◌+◌, ◌-◌, ◌^◌, ◌<◌, sym, ap, ◌∙◌, subst, arith, rules}
use Rattle.plan.specs.Plans.{plan_scheme}
use Rattle.channel.specs.Hearing.{candidate, Sendable}
use Rattle.channel.specs.Plane.{phase_point, apart, with_candidate, nearest_of}
use Rattle.channel.proofs.Nearness.{with_one}
use Rattle.channel.proofs.decision.Candidates.nearest.Goals as goal

pub loop-number-preserved : goal.loop-number-preserved
loop-number-preserved c =
    let q = (plan_scheme c.args.self.plan.now).bits in
    let v = c.args.self.value in
    let p = c.args.received in
    let n = c.loop-number.number in
    let best = c.loop-number.best in
    let same : suc (n - 1) ≡ n = omega arith in
    let next : n + 1 - 1 ≡ suc (n - 1) = omega arith in
    let below : n < 2 ^ q = search rules in
    let index = c.index_of-index.ensures in
    let named = index ∙ sym (ap (candidate q v) same) in
    let distance = c.square_apart-in-loop-number.ensures ∙ ap (λ k. apart p k) (c.point_of-in-loop-number.ensures ∙ ap phase_point named) in (
      subst (λ m. Sendable q v m.index) (sym c.with-best.ensures) (with_one (Sendable q v) best c.index_of-index.result c.square_apart-in-loop-number.result c.loop-number.invariant.0 (n, below, index)),
      c.with-best.ensures ∙ (λ i. with_candidate (c.loop-number.invariant.1 i) (named i) (distance i)) ∙ sym (ap (nearest_of q v p) next),
    )
