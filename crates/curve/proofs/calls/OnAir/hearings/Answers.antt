use Rattle.std.proofs.Common.{◌≡◌, ◌++◌, [], ◌∷◌, length, map, sym, ap, ◌∙◌, add-one, zero-add, rules}
use Rattle.std.specs.List.{range_with_len}
use Rattle.std.proofs.lemmas.List.FromFn.{map-range_with_len_more}
use Rattle.channel.specs.Airs.{aired}
use Rattle.plan.specs.Plans.{plan_scheme}
use Rattle.scrambler.specs.Meanings.{table_meaning}
use Rattle.curve.specs.Calls.{air_after, hearing, first_hearing}
use Rattle.curve.proofs.calls.OnAir.hearings.Goals as goal

pub loop-place-preserved : goal.loop-place-preserved
loop-place-preserved c =
    let i = c.loop-place.invariant in
    let s = plan_scheme c.args.self.now.plan.now in
    let m = table_meaning c.args.table.now in
    let indices = c.args.self.now.indices.now in
    let air = c.args.air.now in
    let place = c.loop-place.place in
    let heard : c.in_ok-hearing.field-0 ≡ first_hearing s m indices air place = c.in_ok-hearing.ensures.call ∙ (λ k. hearing s (i.table k) indices (i.air k) place) in
    record {
      listed = c.in_ok-push.ensures.items ∙ (λ k. i.listed k ++ heard k ∷ []) ∙ sym (map-range_with_len_more (first_hearing s m indices air) 0 place place (zero-add place));
      air = c.in_ok-hearing.ensures.air ∙ ap aired i.air ∙ sym (ap (λ n. air_after n air) (add-one place));
      table = c.hearing.ensures.table ∙ i.table;
    }

pub returns-clause-calls : goal.returns-clause-calls
returns-clause-calls c =
    let all : c.loop-place.place ≡ length c.args.self.now.indices.now = search rules in
    c.loop-place.invariant.listed
    ∙ ap (λ n. map (first_hearing (plan_scheme c.args.self.now.plan.now) (table_meaning c.args.table.now) c.args.self.now.indices.now c.args.air.now) (range_with_len 0 n)) all

pub returns-clause-air : goal.returns-clause-air
returns-clause-air c =
    let all : c.loop-place.place ≡ length c.args.self.now.indices.now = search rules in
    c.loop-place.invariant.air ∙ ap (λ n. air_after n c.args.air.now) all
