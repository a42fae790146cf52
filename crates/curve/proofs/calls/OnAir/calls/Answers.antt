use Rattle.std.proofs.Common.{◌≡◌, ◌<◌, ◌++◌, length, get_or, sym, ap, ◌∙◌, add-one, zero-add, arith, rules}
use Rattle.std.specs.List.{range_with_len, flat_map}
use Rattle.std.specs.Prelude.{slice_index_or}
use Rattle.std.specs.Vec.{vec_len}
use Rattle.std.proofs.lemmas.List.FromFn.{length-map-range_with_len, get_or-map-range_with_len}
use Rattle.channel.specs.Drawing.{reordered}
use Rattle.plan.specs.Plans.{plan_scheme}
use Rattle.scrambler.specs.Meanings.{table_meaning}
use Rattle.curve.specs.Calls.{air_after, air_behind, calls, first_hearing, left_air, place_of, shuffled_air, symbol_calls, turn_air, turn_calls}
use Rattle.curve.proofs.Turns.{flat_map_more, place_below}
use Rattle.curve.proofs.calls.OnAir.calls.Goals as goal

pub index-requires : goal.index-requires
index-requires c =
    let heard = first_hearing (plan_scheme c.args.self.now.plan.now) (table_meaning c.args.table.now) c.args.self.now.indices.now c.args.air.now in
    let n = length c.args.self.now.indices.now in
    let long : length c.in_ok-hearings.hearings.items ≡ n = ap length c.in_ok-hearings.ensures.calls ∙ length-map-range_with_len heard 0 n in
    let same : length c.in_ok-hearings.hearings.items ≡ vec_len c.in_ok-hearings.hearings = search rules in
    let near = place_below n c.loop-place.place-index c.as_slice-place-items.result.now c.in_ok-order.order.items c.as_slice-place-items.ensures.value c.in_ok-order.ensures.places.1
    c.loop-place-test.true in
    omega (arith, near, long, same)

pub loop-place-preserved : goal.loop-place-preserved
unfolding turn_calls
loop-place-preserved c =
    let l = c.loop-place.invariant in
    let s = plan_scheme c.args.self.now.plan.now in
    let m = table_meaning c.args.table.now in
    let indices = c.args.self.now.indices.now in
    let n = length indices in
    let air = c.args.air.now in
    let i = c.loop-place.place-index in
    let place = slice_index_or c.as_slice-place-items.result.now i 0 in
    let order : c.as_slice-place-items.result.now ≡ reordered (air_after n air).generator.state (range_with_len 0 n) =
    c.as_slice-place-items.ensures.value ∙ c.in_ok-order.ensures.order ∙ ap (λ a. reordered a.generator.state (range_with_len 0 n)) c.in_ok-hearings.ensures.air in
    let turn : place ≡ place_of n air i = ap (λ xs. get_or xs i 0) order in
    let near : place < n =
    place_below n i c.as_slice-place-items.result.now c.in_ok-order.order.items c.as_slice-place-items.ensures.value c.in_ok-order.ensures.places.1 c.loop-place-test.true in
    let first : c.index.result.now ≡ first_hearing s m indices air place =
    c.index.ensures ∙ ap (λ xs. get_or xs place c.index.result.now) c.in_ok-hearings.ensures.calls
    ∙ get_or-map-range_with_len (first_hearing s m indices air) 0 n place place c.index.result.now near (zero-add place) in
    let more : c.call.new.calls.items ≡ flat_map (turn_calls s m indices air) (range_with_len 0 i) ++ turn_calls s m indices air i =
    c.in_ok-call.ensures.calls
    ∙ (λ k. l.listed k ++ symbol_calls s (l.table k) indices (l.air k) (turn k) ((first ∙ ap (first_hearing s m indices air) turn) k)) in
    record {
      listed = more ∙ sym (flat_map_more (turn_calls s m indices air) i);
      air = c.in_ok-call.ensures.air ∙ ap left_air l.air ∙ sym (ap (turn_air (shuffled_air n air)) (add-one i));
      table = c.call.ensures.table ∙ l.table;
    }

pub returns-clause-calls : goal.returns-clause-calls
unfolding calls
returns-clause-calls c =
    let n = length c.args.self.now.indices.now in
    let long : length c.as_slice-place-items.result.now ≡ n = ap length c.as_slice-place-items.ensures.value ∙ c.in_ok-order.ensures.places.0 in
    let all : c.loop-place.place-index ≡ n = omega (arith, c.loop-place-test.false, c.loop-place.auto.place-index-end, long) in
    c.loop-place.invariant.listed
    ∙ ap (λ k. flat_map (turn_calls (plan_scheme c.args.self.now.plan.now) (table_meaning c.args.table.now) c.args.self.now.indices.now c.args.air.now) (range_with_len 0 k)) all

pub returns-clause-air : goal.returns-clause-air
unfolding air_behind
returns-clause-air c =
    let n = length c.args.self.now.indices.now in
    let long : length c.as_slice-place-items.result.now ≡ n = ap length c.as_slice-place-items.ensures.value ∙ c.in_ok-order.ensures.places.0 in
    let all : c.loop-place.place-index ≡ n = omega (arith, c.loop-place-test.false, c.loop-place.auto.place-index-end, long) in
    c.loop-place.invariant.air ∙ ap (turn_air (shuffled_air n c.args.air.now)) all
