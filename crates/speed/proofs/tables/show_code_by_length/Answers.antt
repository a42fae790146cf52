use Rattle.std.proofs.Common.{◌≡◌, ℕ, List, [], ◌∷◌, get_or, pos, subst, to_z, of_z, w8, rules}
use Rattle.std.specs.Io.KnownBytes.{Appends}
use Rattle.plan.specs.Plans.{plan_scheme}
use Rattle.speed.specs.declared.judge.Judge.TheVariants.{Total}
use Rattle.speed.specs.Tables.{IsLine, Each, OfRow, ByLength, GrowthOf, longest_row}
use Rattle.speed.proofs.Tabled.{shown_none, shown_more, shown_all, shown_both, on_ok}
use Rattle.speed.proofs.tables.show_code_by_length.Goals as goal

pub loop-decibels-init : goal.loop-decibels-init
loop-decibels-init g c = shown_none (ByLength c.args.constraint) (pos 1 ∷ pos 3 ∷ pos 5 ∷ []) (g.W.Write.contents c.args.output.now)

pub loop-decibels-preserved : goal.loop-decibels-preserved
loop-decibels-preserved g c =
    let said = c.in_ok-show_lengths.ensures in
    let i = c.loop-decibels.decibels-index in
    let z = get_or (pos 1 ∷ pos 3 ∷ pos 5 ∷ []) i (pos 0) in
    let same : to_z w8 (of_z w8 z) ≡ z = search rules in
    shown_more (ByLength c.args.constraint) (pos 1 ∷ pos 3 ∷ pos 5 ∷ []) i (g.W.Write.contents c.args.output.now) (g.W.Write.contents c.loop-decibels.output)
    (g.W.Write.contents c.show_lengths.new.output) (pos 0) said.0 c.loop-decibels-test.true c.loop-decibels.invariant (subst (λ q. ByLength c.args.constraint q said.0) same said.1) said.2

pub returns : goal.returns
returns g c =
    let k = c.args.constraint in
    let w = g.W.Write.contents c.args.output.now in
    let v = g.W.Write.contents c.loop-decibels.output in
    let u = g.W.Write.contents c.show_taken.new.output in
    let s = plan_scheme c.in_ok-plan.field-0 in
    let done : c.loop-decibels.decibels-index ≡ 3 = search rules in
    let before = shown_all (ByLength k) (pos 1 ∷ pos 3 ∷ pos 5 ∷ []) c.loop-decibels.decibels-index w v done c.loop-decibels.invariant in
    on_ok c.show_taken.result ((text : List ℕ) × IsLine s (pos 7) Total text × Appends v u text) ((text : List ℕ) × GrowthOf k text × Appends w u text)
    (λ last. shown_both (Each (ByLength k) (pos 1 ∷ pos 3 ∷ pos 5 ∷ [])) (OfRow longest_row k (λ q. IsLine q (pos 7) Total)) w v u before
    (last.0, (s, c.in_ok-plan.ensures.made, last.1), last.2)) c.show_taken.ensures
