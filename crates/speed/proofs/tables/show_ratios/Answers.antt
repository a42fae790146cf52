use Rattle.std.proofs.Common.{◌≡◌, length, get_or, pos, subst, to_z, of_z, w8, arith, rules}
use Rattle.plan.specs.Plans.{plan_scheme}
use Rattle.speed.specs.Tables.{AllKinds}
use Rattle.speed.proofs.Tabled.{shown_none, shown_more, shown_all}
use Rattle.speed.proofs.tables.show_ratios.Goals as goal

pub loop-decibels-init : goal.loop-decibels-init
loop-decibels-init g c = shown_none (AllKinds (plan_scheme c.args.plan.now)) c.args.ratios.now (g.W.Write.contents c.args.output.now)

pub loop-decibels-preserved : goal.loop-decibels-preserved
loop-decibels-preserved g c =
    let said = c.in_ok-show_judges.ensures in
    let s = plan_scheme c.args.plan.now in
    let i = c.loop-decibels.decibels-index in
    let z = get_or c.args.ratios.now i (pos 0) in
    let same : to_z w8 (of_z w8 z) ≡ z = search rules in
    shown_more (AllKinds s) c.args.ratios.now i (g.W.Write.contents c.args.output.now)
    (g.W.Write.contents c.loop-decibels.output) (g.W.Write.contents c.show_judges.new.output) (pos 0) said.0 c.loop-decibels-test.true c.loop-decibels.invariant
    (subst (λ q. AllKinds s q said.0) same said.1) said.2

pub returns : goal.returns
returns g c =
    let all : c.loop-decibels.decibels-index ≡ length c.args.ratios.now = omega arith in
    shown_all (AllKinds (plan_scheme c.args.plan.now)) c.args.ratios.now c.loop-decibels.decibels-index (g.W.Write.contents c.args.output.now)
    (g.W.Write.contents c.loop-decibels.output) all c.loop-decibels.invariant
