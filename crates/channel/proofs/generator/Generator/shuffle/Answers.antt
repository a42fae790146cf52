use Rattle.std.proofs.Common.{◌≡◌, ◌+◌, ◌-◌, ◌%◌, ◌<◌, eqb, length, sym, ap, ◌∙◌, add-one, arith}
use Rattle.std.specs.List.{swap}
use Rattle.std.proofs.lemmas.List.Sorted.{IsPermutation-trans}
use Rattle.std.proofs.lemmas.Bool.{cond-false, ne_eqb}
use Rattle.channel.specs.Drawing.{stepped, state_after, drawn, exchanged_to}
use Rattle.channel.proofs.generator.Generator.shuffle.Goals as goal

pub loop-i-preserved : goal.loop-i-preserved
loop-i-preserved c =
    let seed = c.args.self.now.state in
    let places = c.args.places.now in
    let i = c.loop-i.i in
    let left = length places - i in
    let some : i < length places = omega arith in
    let same : length c.loop-i.places ≡ length places = c.loop-i.auto.places in
    let drawn_one : c.draw_below.result ≡ drawn (state_after i seed) % left =
    c.draw_below.ensures.value
    ∙ cond-false (eqb (length c.loop-i.places - i) 0) _ _ (ne_eqb (length c.loop-i.places - i) 0 (λ none. omega arith))
    ∙ (λ x. drawn (c.loop-i.invariant.0 x) % (same x - i)) in (
      c.draw_below.ensures.after ∙ ap stepped c.loop-i.invariant.0 ∙ sym (ap (λ n. state_after n seed) (add-one i)),
      c.swap.ensures.after ∙ (λ x. swap (c.loop-i.invariant.1 x) i (i + drawn_one x)) ∙ sym (ap (λ n. exchanged_to seed n places) (add-one i)),
      IsPermutation-trans places c.loop-i.places _ c.loop-i.invariant.2 c.swap.ensures.permutation,
    )
