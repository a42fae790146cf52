use Rattle.std.proofs.Common.{false, get_or, rules}
use Rattle.score.proofs.Turns.{absorbed_more, absorbed_all}
use Rattle.search.proofs.step.ways.absorb_each.Goals as goal

pub loop-value-preserved : goal.loop-value-preserved
loop-value-preserved g c =
    let k = g.K.Kind.scale c.args.kind.now in
    λ i l. absorbed_more k c.args.values.now c.loop-value.value-index (get_or c.args.bits i false)
    (get_or c.loop-value.scores i k.start) (get_or c.extend_each-scores.result i k.start) _ c.loop-value-test.true (search rules) (c.extend_each-scores.ensures i l) (c.loop-value.invariant i l)

pub returns : goal.returns
returns g c =
    let k = g.K.Kind.scale c.args.kind.now in
    λ i l. absorbed_all k c.args.values.now c.loop-value.value-index (get_or c.args.bits i false)
    (get_or c.loop-value.scores i k.start) _ c.loop-value-test.false (c.loop-value.invariant i l)
