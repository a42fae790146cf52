use Rattle.std.proofs.Common.{◌≡◌, ◌<◌, length, replicate, refl, ap, ◌∙◌, subst, arith}
use Rattle.std.proofs.lemmas.Bool.{cond-true, lt-ltb}
use Rattle.plan.specs.Plans.{plan_scheme}
use Rattle.score.specs.Blocks.{value_at}
use Rattle.trellis.specs.Survivors.{prefix}
use Rattle.search.proofs.Passes.{Passed, passed_none, passed_more}
use Rattle.search.proofs.pass.Workspace.sweep.Goals as goal

pub loop-t-init : goal.loop-t-init
loop-t-init g c =
    let s = c.args.self.now in
    let n = length s.before.now.scores.now in
    (refl, refl, passed_none _ _ _ _ _ n _ _ s.before_fits (c.fill.ensures ∙ ap (replicate n) c.start.ensures))

pub loop-t-preserved : goal.loop-t-preserved
loop-t-preserved g c =
    let p = c.args.self.now.pass.now in
    let t = c.loop-t.t in
    let inside : t < (plan_scheme p.plan.now).block = omega (arith, p.size_fits, c.size-t-end.ensures) in
    let scores = ap (λ col. col.scores.now) c.swap.ensures.x_after in
    let values = c.gather.ensures ∙ cond-true _ _ _ (lt-ltb t (plan_scheme p.plan.now).block inside) in
    let forced = c.forced_bit.ensures ∙ ap (λ m. prefix m c.args.held c.args.number t) c.memory.ensures in
    let r = c.run.ensures in (
      c.loop-t.invariant.0,
      c.loop-t.invariant.1,
      passed_more _ _ _ _ _ t c.loop-t.self.before.now.scores.now _ _ c.loop-t.self.marks.now _ _ _ scores values forced r.scores r.marks r.others c.loop-t.invariant.2,
    )

pub returns : goal.returns
returns g c =
    let p = c.args.self.now.pass.now in
    let m = p.trellis.memory in
    let e : c.loop-t.t ≡ p.trellis.size = omega (arith, c.size-t-end.ensures) in
    let d = subst (λ n. Passed (g.K.Kind.scale p.kind.now) (plan_scheme p.plan.now) (value_at p.values.now)
    m (prefix m c.args.held c.args.number) n c.loop-t.self.before.now.scores.now c.loop-t.self.marks.now) e c.loop-t.invariant.2 in
    record { pass = c.loop-t.invariant.0; trips = c.loop-t.invariant.1 ∙ c.saturating_add-self.ensures; scores = d.scored; marks = d.kept }
