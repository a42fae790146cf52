use Rattle.std.proofs.Common.{◌<◌, All, ℕ, length, sym, ap, subst, ◌∙◌}
use Rattle.std.proofs.lemmas.List.{with_items_is}
use Rattle.std.proofs.lemmas.List.FromFn.{length-range_with_len}
use Rattle.std.proofs.lemmas.List.Sorted.{All-permutation}
use Rattle.channel.specs.Drawing.{state_after, reordered}
use Rattle.curve.proofs.Turns.{range_below}
use Rattle.curve.proofs.calls.shuffled_places.Goals as goal

pub returns-clause-order : goal.returns-clause-order
returns-clause-order c =
    let listed = c.in_ok-places.ensures in
    with_items_is c.in_ok-places.places c.shuffle.new.places (c.shuffle.auto.places ∙ c.as_mut_slice.ensures.len)
    ∙ c.shuffle.ensures.order ∙ ap (reordered c.args.air.now.generator.state) (c.as_mut_slice.ensures.value ∙ listed)

pub returns-clause-places : goal.returns-clause-places
returns-clause-places c =
    let n = c.args.count in
    let listed = c.in_ok-places.ensures in
    let before = c.as_mut_slice.ensures.value ∙ listed in
    let items = with_items_is c.in_ok-places.places c.shuffle.new.places (c.shuffle.auto.places ∙ c.as_mut_slice.ensures.len) in
    let P : ℕ → Type 0 = λ p. p < n in
    let below : All P c.shuffle.new.places =
    All-permutation P c.as_mut_slice.result.now c.shuffle.new.places c.shuffle.ensures.same (subst (All P) (sym before) (range_below n)) in (
      ap length items ∙ c.shuffle.auto.places ∙ ap length before ∙ length-range_with_len 0 n,
      subst (All P) (sym items) below,
    )

pub returns-clause-air : goal.returns-clause-air
returns-clause-air c =
    let air = c.args.air.now in
    let long = ap length (c.as_mut_slice.ensures.value ∙ c.in_ok-places.ensures) ∙ length-range_with_len 0 c.args.count in
    let after = c.shuffle.ensures.after ∙ ap (λ n. state_after n air.generator.state) long in
    (λ i. record { generator = record { state = after i }; amplitude = air.amplitude; noise = air.noise })
