use Rattle.std.proofs.Common.{◌≡◌, ◌<◌, Some, arith}
use Rattle.std.proofs.lemmas.Bool.{lt-ltb}
use Rattle.code.specs.Blocks.{block_scheme, block_bits}
use Rattle.code.specs.Coding.{coded}
use Rattle.score.specs.Blocks.{value_at}
use Rattle.score.specs.Gathered.{held_both}
use Rattle.score.proofs.Turns.{step_is, after_more, after_all}
use Rattle.score.proofs.block.score_steps.Goals as goal

pub loop-t-preserved : goal.loop-t-preserved
loop-t-preserved g c =
    let k = g.K.Kind.scale c.args.kind.now in
    let s = block_scheme c.args.block.now in
    let u = block_bits c.args.block.now in
    let values = value_at c.args.memory.now in
    let t = c.loop-t.t in
    let within : t < s.block = omega arith in
    let some : c.pair.result ≡ Some (coded s u t) = rw (lt-ltb t s.block within) at c.pair.ensures in
    let bits : c.unwrap-bits.result ≡ coded s u t = cc in
    after_more k s values u t c.loop-t.score c.absorb-score.result c.loop-t.invariant
    (step_is k s values t (held_both c.gather.result) c.unwrap-bits.result (coded s u t) c.loop-t.score c.absorb-score.result within c.gather.ensures bits c.absorb-score.ensures)

pub returns : goal.returns
returns g c =
    let s = block_scheme c.args.block.now in
    let all : c.loop-t.t ≡ s.block = omega arith in
    after_all (g.K.Kind.scale c.args.kind.now) s (value_at c.args.memory.now) (block_bits c.args.block.now) c.loop-t.t c.loop-t.score all c.loop-t.invariant
