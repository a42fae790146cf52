use Rattle.std.proofs.Common.{rules}
use Rattle.score.proofs.Turns.{absorbed_more, absorbed_all}
use Rattle.score.proofs.gathered.gathering.absorb.Goals as goal

pub loop-value-preserved : goal.loop-value-preserved
loop-value-preserved g c =
    absorbed_more (g.K.Kind.scale c.args.kind.now) c.args.values.now c.loop-value.value-index c.args.bit
    c.loop-value.score c.extend-score.result _ c.loop-value-test.true (search rules) c.extend-score.ensures c.loop-value.invariant

pub returns : goal.returns
returns g c =
    absorbed_all (g.K.Kind.scale c.args.kind.now) c.args.values.now c.loop-value.value-index c.args.bit
    c.loop-value.score _ c.loop-value-test.false c.loop-value.invariant
