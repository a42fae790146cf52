use Rattle.std.proofs.Common.{◌≡◌, ◌/◌, ◌^◌, length, set, get_or, sym, ap, ◌∙◌, add-one, arith}
use Rattle.std.proofs.lemmas.List.Edits.{fill_by_more}
use Rattle.std.proofs.lemmas.List.FromFn.{fill_by_all}
use Rattle.channel.specs.Drawing.{stepped, state_after, drawn, drawn_bit}
use Rattle.channel.proofs.generator.Generator.draw_bits.Goals as goal

pub loop-place-preserved : goal.loop-place-preserved
unfolding drawn_bit
loop-place-preserved c =
    let seed = c.args.self.now.state in
    let out = c.loop-place.out in
    let i = c.loop-place.place-index in
    let bit : c.draw_bit.result ≡ drawn_bit seed i = c.draw_bit.ensures.value ∙ ap (λ s. drawn s / 2 ^ 63) c.loop-place.invariant.0 in (
      c.draw_bit.ensures.after ∙ ap stepped c.loop-place.invariant.0 ∙ sym (ap (λ n. state_after n seed) (add-one i)),
      λ k lt. ap (λ b. get_or (set out i b) k 0) bit ∙ fill_by_more (drawn_bit seed) out i 0 (omega arith) c.loop-place.invariant.1 k lt,
    )

pub returns-clause-bits : goal.returns-clause-bits
returns-clause-bits c =
    let out = c.args.out.now in
    let all : c.loop-place.place-index ≡ length out = omega (arith, c.loop-place.auto, c.loop-place-test.false) in
    fill_by_all (drawn_bit c.args.self.now.state) c.loop-place.out (length out) 0 (omega arith) (λ k lt. c.loop-place.invariant.1 k (omega (arith, all)))
