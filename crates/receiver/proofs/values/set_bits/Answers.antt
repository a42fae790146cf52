use Rattle.std.proofs.Common.{◌≡◌, ℕ, ℤ, length, set, sym, ap, ◌∙◌, zero-add, add-one, arith, w16}
use Rattle.std.proofs.lemmas.Int.{to_z-of_z}
use Rattle.code.specs.Numbers.{bit_of}
use Rattle.receiver.specs.Values.{signed, with_values}
use Rattle.receiver.proofs.Runs.{all_set}
use Rattle.receiver.proofs.values.set_bits.Goals as goal

pub loop-i-preserved : goal.loop-i-preserved
loop-i-preserved c =
    let run = c.args.run.now in
    let i = c.loop-i.i in
    let value = to_z-of_z w16 c.value_for.result (record { sfits = c.value_for.type_inv }) ∙ c.value_for.ensures ∙ ap (signed c.args.weight) c.bit_at.ensures in
    (λ x. set (c.loop-i.invariant x) (sym (zero-add i) x) (value x))
    ∙ ap (with_values run 0 (λ k. signed c.args.weight (bit_of (length run) c.args.number k))) (sym (add-one i))

pub returns : goal.returns
returns c =
    let run = c.args.run.now in
    let f : ℕ → ℤ = λ k. signed c.args.weight (bit_of (length run) c.args.number k) in
    let all : c.loop-i.i ≡ length run = omega arith in
    c.loop-i.invariant ∙ ap (with_values run 0 f) all ∙ all_set run f
