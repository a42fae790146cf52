use Rattle.std.proofs.Common.{◌≡◌, ◌+◌, ◌-◌, ◌*◌, ◌%◌, ◌^◌, ◌<◌, ◌≤◌, sym, ap, ◌∙◌, subst, mod-eq_of_lt, arith, pow_mono}
use Rattle.code.specs.Blocks.{block_scheme, block_bits}
use Rattle.code.specs.Coding.{around, mother}
use Rattle.code.proofs.Accepted.{facts_of}
use Rattle.code.proofs.Blocks.{appended_small, num_small}
use Rattle.code.proofs.Filled.{Filled, filled_all}
use Rattle.code.proofs.Pairs.{filled_pair, mother_first, mother_second, pair_is, state_next, window_is}
use Rattle.code.proofs.block.Block.write_pairs.Goals as goal

pub loop-t-preserved : goal.loop-t-preserved
loop-t-preserved c =
    let s = block_scheme c.args.self.now in
    let u = block_bits c.args.self.now in
    let known = facts_of c.args.self.now.plan.now in
    let t = c.loop-t.t in
    let k = ap (λ p. p.constraint) c.parts.ensures in
    let memory = c.parts.result.now.constraint - 1 in
    let few : memory ≤ 8 = omega (arith, k, known.constraint_high) in
    let fits : 2 ^ memory < 65536 = omega (arith, pow_mono few) in
    let low : 1 * 2 ^ memory % 65536 - 1 ≡ 2 ^ (s.constraint - 1) - 1 =
    omega (arith, mod-eq_of_lt fits, ap (λ n. 2 ^ (n - 1)) k) in
    let bit = c.bit.ensures ∙ ap (λ n. around s u (t + (n - 1))) k in
    let small : c.loop-t.state < 2 ^ 8 = omega (arith, c.loop-t.invariant.0, num_small (around s u) (s.constraint - 1) t (omega (arith, known.constraint_high))) in
    let whole = c.append-window.ensures ∙ (appended_small c.loop-t.state 8 c.bit.result small (omega arith)).0 in
    let x = window_is s known u t c.loop-t.state c.append-window.result c.bit.result c.loop-t.invariant.0 bit whole in
    let p = pair_is s known u t c.append-window.result c.parity-first.result x c.parity-first.ensures in (
      state_next s known u t c.append-window.result _ x low,
      filled_pair (mother s u) t c.args.word.now c.loop-t.word c.parity-first.result.0 c.parity-first.result.1 c.loop-t.invariant.1
          (ap (λ q. q.0) p ∙ sym (mother_first s u t)) (ap (λ q. q.1) p ∙ sym (mother_second s u t)),
    )

pub returns : goal.returns
returns c =
    let s = block_scheme c.args.self.now in
    let f = mother s (block_bits c.args.self.now) in
    let all : c.loop-t.t ≡ s.block = omega arith in
    filled_all f (2 * s.block) c.args.word.now c.loop-t.word c.requires
    (subst (λ n. Filled f (2 * n) c.args.word.now c.loop-t.word) all c.loop-t.invariant.1)
