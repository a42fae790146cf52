use Rattle.std.proofs.Common.{◌≡◌, ℕ, List, [], ◌∷◌, pos, subst, rules}
use Rattle.std.specs.Io.KnownBytes.{Appends}
use Rattle.plan.specs.Plans.{plan_scheme}
use Rattle.speed.specs.Measuring.{half_rate}
use Rattle.speed.specs.Tables.{AtRatios, AtLengths, OfRow, KindsOf, long_row}
use Rattle.speed.proofs.Tabled.{shown_none, shown_more, shown_all, shown_both, on_ok}
use Rattle.speed.proofs.tables.show_code.Goals as goal

pub loop-block_length-init : goal.loop-block_length-init
loop-block_length-init g c =
    shown_none (λ block. AtRatios (half_rate c.args.constraint block) (pos 0 ∷ pos 1 ∷ pos 2 ∷ pos 3 ∷ pos 5 ∷ [])) (136 ∷ 3072 ∷ []) (g.W.Write.contents c.args.output.now)

pub loop-block_length-preserved : goal.loop-block_length-preserved
loop-block_length-preserved g c =
    let said = c.in_ok-show_ratios.ensures in
    let ratios = pos 0 ∷ pos 1 ∷ pos 2 ∷ pos 3 ∷ pos 5 ∷ [] in
    shown_more (λ block. AtRatios (half_rate c.args.constraint block) (pos 0 ∷ pos 1 ∷ pos 2 ∷ pos 3 ∷ pos 5 ∷ [])) (136 ∷ 3072 ∷ []) c.loop-block_length.block_length-index
    (g.W.Write.contents c.args.output.now) (g.W.Write.contents c.loop-block_length.output) (g.W.Write.contents c.show_ratios.new.output) _ said.0
    c.loop-block_length-test.true c.loop-block_length.invariant (subst (λ s. AtRatios s ratios said.0) c.in_ok-plan.ensures.made said.1) said.2

pub returns : goal.returns
returns g c =
    let k = c.args.constraint in
    let w = g.W.Write.contents c.args.output.now in
    let v = g.W.Write.contents c.loop-block_length.output in
    let u = g.W.Write.contents c.show_ratios-2.new.output in
    let two = pos 1 ∷ pos 3 ∷ [] in
    let s = plan_scheme c.in_ok-plan-2.field-0 in
    let done : c.loop-block_length.block_length-index ≡ 2 = search rules in
    let before = shown_all (λ block. AtRatios (half_rate k block) (pos 0 ∷ pos 1 ∷ pos 2 ∷ pos 3 ∷ pos 5 ∷ [])) (136 ∷ 3072 ∷ []) c.loop-block_length.block_length-index w v done
    c.loop-block_length.invariant in
    on_ok c.show_ratios-2.result ((text : List ℕ) × AtRatios s two text × Appends v u text) ((text : List ℕ) × KindsOf k text × Appends w u text)
    (λ last. shown_both (AtLengths k) (OfRow long_row k (λ q. AtRatios q two)) w v u before (last.0, (s, c.in_ok-plan-2.ensures.made, last.1), last.2)) c.show_ratios-2.ensures
