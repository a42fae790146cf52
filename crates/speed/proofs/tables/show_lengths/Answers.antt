use Rattle.std.proofs.Common.{◌≡◌, ℕ, List, [], ◌∷◌, subst, to_z, of_z, w8, rules}
use Rattle.std.specs.Io.KnownBytes.{Appends}
use Rattle.plan.specs.Plans.{plan_scheme}
use Rattle.speed.specs.Measuring.{half_rate}
use Rattle.speed.specs.declared.judge.Judge.TheVariants.{Total}
use Rattle.speed.specs.Tables.{IsLine, Each, OfRow, ByLength, long_row}
use Rattle.speed.proofs.Tabled.{shown_none, shown_more, shown_all, shown_both, on_ok}
use Rattle.speed.proofs.tables.show_lengths.Goals as goal

pub loop-block_length-init : goal.loop-block_length-init
loop-block_length-init g c =
    shown_none (λ block. IsLine (half_rate c.args.constraint block) (to_z w8 (of_z w8 c.args.decibels)) Total) (136 ∷ 512 ∷ 3072 ∷ 12288 ∷ []) (g.W.Write.contents c.args.output.now)

pub loop-block_length-preserved : goal.loop-block_length-preserved
loop-block_length-preserved g c =
    let said = c.in_ok-show_taken.ensures in
    let z = to_z w8 (of_z w8 c.args.decibels) in
    shown_more (λ block. IsLine (half_rate c.args.constraint block) z Total) (136 ∷ 512 ∷ 3072 ∷ 12288 ∷ []) c.loop-block_length.block_length-index
    (g.W.Write.contents c.args.output.now) (g.W.Write.contents c.loop-block_length.output) (g.W.Write.contents c.show_taken.new.output) _ said.0
    c.loop-block_length-test.true c.loop-block_length.invariant (subst (λ s. IsLine s z Total said.0) c.in_ok-plan.ensures.made said.1) said.2

pub returns : goal.returns
returns g c =
    let k = c.args.constraint in
    let w = g.W.Write.contents c.args.output.now in
    let v = g.W.Write.contents c.loop-block_length.output in
    let u = g.W.Write.contents c.show_taken-2.new.output in
    let s = plan_scheme c.in_ok-plan-2.field-0 in
    let z = to_z w8 (of_z w8 c.args.decibels) in
    let same : z ≡ c.args.decibels = search rules in
    let done : c.loop-block_length.block_length-index ≡ 4 = search rules in
    let before = shown_all (λ block. IsLine (half_rate k block) z Total) (136 ∷ 512 ∷ 3072 ∷ 12288 ∷ []) c.loop-block_length.block_length-index w v done
    c.loop-block_length.invariant in
    on_ok c.show_taken-2.result ((text : List ℕ) × IsLine s z Total text × Appends v u text) ((text : List ℕ) × ByLength k c.args.decibels text × Appends w u text)
    (λ last. subst (λ q. (text : List ℕ) × ByLength k q text × Appends w u text) same
    (shown_both (Each (λ block. IsLine (half_rate k block) z Total) (136 ∷ 512 ∷ 3072 ∷ 12288 ∷ [])) (OfRow long_row k (λ q. IsLine q z Total)) w v u before
    (last.0, (s, c.in_ok-plan-2.ensures.made, last.1), last.2))) c.show_taken-2.ensures
