use Rattle.std.proofs.Common.{◌≡◌, ℕ, List, [], ◌∷◌, subst, to_z, of_z, w8, rules}
use Rattle.std.specs.Io.KnownBytes.{Appends}
use Rattle.plan.specs.Plans.{plan_scheme}
use Rattle.speed.specs.declared.judge.Judge.TheVariants.{Total, Worst, CountFirst}
use Rattle.speed.specs.Tables.{IsLine, AllKinds}
use Rattle.speed.proofs.Tabled.{shown_none, shown_more, shown_all}
use Rattle.speed.proofs.tables.show_judges.Goals as goal

pub loop-judge-init : goal.loop-judge-init
loop-judge-init g c =
    shown_none (IsLine (plan_scheme c.args.plan.now) (to_z w8 (of_z w8 c.args.decibels))) (Total ∷ Worst ∷ CountFirst ∷ []) (g.W.Write.contents c.args.output.now)

pub loop-judge-preserved : goal.loop-judge-preserved
loop-judge-preserved g c =
    let said = c.in_ok-show_taken.ensures in
    shown_more (IsLine (plan_scheme c.args.plan.now) (to_z w8 (of_z w8 c.args.decibels))) (Total ∷ Worst ∷ CountFirst ∷ []) c.loop-judge.judge-index
    (g.W.Write.contents c.args.output.now) (g.W.Write.contents c.loop-judge.output) (g.W.Write.contents c.show_taken.new.output) _ said.0 c.loop-judge-test.true
    c.loop-judge.invariant said.1 said.2

pub returns : goal.returns
returns g c =
    let s = plan_scheme c.args.plan.now in
    let w = g.W.Write.contents c.args.output.now in
    let v = g.W.Write.contents c.loop-judge.output in
    let z = to_z w8 (of_z w8 c.args.decibels) in
    let same : z ≡ c.args.decibels = search rules in
    let all : c.loop-judge.judge-index ≡ 3 = search rules in
    subst (λ q. (text : List ℕ) × AllKinds s q text × Appends w v text) same
    (shown_all (IsLine s z) (Total ∷ Worst ∷ CountFirst ∷ []) c.loop-judge.judge-index w v all c.loop-judge.invariant)
