use Rattle.std.proofs.Common.{◌≡◌, length, replicate, sym, ap, subst, ◌∙◌, rules}
use Rattle.std.proofs.lemmas.List.{with_items_is}
use Rattle.channel.specs.declared.air.Air.{Air}
use Rattle.code.specs.Numbers.{bits_of}
use Rattle.plan.specs.Plans.{plan_scheme}
use Rattle.receiver.specs.Receivers.{view}
use Rattle.replay.specs.Promise.{Promise}
use Rattle.rows.specs.Schemes.{row_scheme}
use Rattle.score.specs.Kinds.{total_scale}
use Rattle.scrambler.specs.Meanings.{table_meaning}
use Rattle.search.specs.Looking.{shown}
use Rattle.sender.specs.Transmission.{symbols}
use Rattle.curve.specs.Calls.{drawn_on, calls, air_behind}
use Rattle.curve.specs.Trials.{enough, table_of, drawn_indices, values, trial_view, trial_calls, next_air, IsTrial}
use Rattle.curve.proofs.Tried.{of_register, trial_made, some_scheme, length_indices}
use Rattle.curve.proofs.trial.run_trial.Goals as goal

pub returns-clause-trial : goal.returns-clause-trial
returns-clause-trial c =
    let s = plan_scheme c.in_ok-plan.plan in
    let air = c.args.air.now in
    let drawn_air : Air = record { generator = c.drawn_and_sent.new.generator; amplitude = air.amplitude; noise = air.noise } in
    let drawn : drawn_air ≡ drawn_on s.block air = λ i. record { generator = record { state = c.in_ok-sent.ensures.after i }; amplitude = air.amplitude; noise = air.noise } in
    let indices : c.as_slice.result.now ≡ drawn_indices s air.generator.state = c.as_slice.ensures.value ∙ c.in_ok-sent.ensures.sent.indices in
    let table : table_meaning c.in_ok-table.table ≡ table_of s = of_register s (table_meaning c.in_ok-table.table) c.in_ok-table.ensures.table in
    let after : table_meaning c.calls.new.table ≡ table_of s = c.calls.ensures.table ∙ table in
    let v = view c.in_ok-plan.plan (table_meaning c.calls.new.table) in
    let seen : v ≡ trial_view s = λ i. record { scheme = s; meaning = after i } in
    let heard : c.as_slice-2.result.now ≡ trial_calls s air = c.as_slice-2.ensures.value ∙ c.in_ok-calls.ensures.calls ∙ (λ i. calls s (table i) (indices i) (drawn i)) in
    let items = with_items_is c.in_ok-shown.shown c.decoded.new.block (c.decoded.auto.block ∙ c.as_mut_slice.ensures.len) in
    let made : c.in_ok-shown.shown.items ≡ replicate c.parts.result.now.block_length 0 = search rules in
    let zeros : c.as_mut_slice.result.now ≡ replicate s.block 0 = c.as_mut_slice.ensures.value ∙ made ∙ ap (λ p. replicate p.block_length 0) c.parts.ensures in
    let bytes = items ∙ c.in_ok-score.ensures.shown ∙ ap (shown total_scale s (values v c.as_slice-2.result.now)) zeros in
    let best = subst (λ bs. Promise total_scale v (enough s) c.as_slice-2.result.now (bits_of bs) c.in_ok-score.score) (sym items) c.in_ok-score.ensures.promise in
    some_scheme (λ z. IsTrial z air _) (row_scheme c.args.choice.row c.args.choice.constraint) s c.in_ok-plan.ensures.made
    (trial_made s air _ v c.as_slice-2.result.now c.in_ok-sent.ensures.sent.block seen heard bytes best)

pub returns-clause-air : goal.returns-clause-air
returns-clause-air c =
    let s = plan_scheme c.in_ok-plan.plan in
    let air = c.args.air.now in
    let drawn_air : Air = record { generator = c.drawn_and_sent.new.generator; amplitude = air.amplitude; noise = air.noise } in
    let drawn : drawn_air ≡ drawn_on s.block air = λ i. record { generator = record { state = c.in_ok-sent.ensures.after i }; amplitude = air.amplitude; noise = air.noise } in
    let long : length c.as_slice.result.now ≡ symbols s =
    ap length c.as_slice.ensures.value ∙ ap length c.in_ok-sent.ensures.sent.indices ∙ length_indices s air.generator.state in
    some_scheme (λ z. _ ≡ next_air z air) (row_scheme c.args.choice.row c.args.choice.constraint) s c.in_ok-plan.ensures.made
    (c.in_ok-calls.ensures.air ∙ (λ i. air_behind (long i) (drawn i)))
