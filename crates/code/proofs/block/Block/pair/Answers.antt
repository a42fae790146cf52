use Rattle.std.proofs.Common.{◌≡◌, Some, ap, ◌∙◌, arith}
use Rattle.std.proofs.lemmas.Bool.{lt-ltb}
use Rattle.code.specs.Blocks.{block_scheme, block_bits}
use Rattle.code.specs.Coding.{around}
use Rattle.code.specs.Numbers.{num}
use Rattle.code.proofs.Accepted.{facts_of}
use Rattle.code.proofs.Pairs.{pair_is}
use Rattle.code.proofs.block.Block.pair.Goals as goal

pub returns : goal.returns
returns c =
    let s = block_scheme c.args.self.now in
    let u = block_bits c.args.self.now in
    let t = c.args.t in
    let within = lt-ltb t s.block (omega arith) in
    let window : c.number-window.result ≡ num (around s u) s.constraint t = c.number-window.ensures ∙ ap (λ p. num (around s u) p.constraint t) c.parts.ensures in
    rw within (ap Some (pair_is s (facts_of c.args.self.now.plan.now) u t c.number-window.result c.parity.result window c.parity.ensures))
