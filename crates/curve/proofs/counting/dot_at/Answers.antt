use Rattle.std.proofs.Common.{◌≡◌, refl, subst, to_z, of_z, w8, rules}
use Rattle.rows.specs.Schemes.{row_scheme}
use Rattle.curve.specs.Dots.{IsDot}
use Rattle.curve.proofs.Counted.{Stands, always, finished, one_more}
use Rattle.curve.proofs.counting.dot_at.Goals as goal

pub loop-init : goal.loop-init
loop-init c =
    let e = c.default.ensures in
    let none : c.default.result.count ≡ record { blocks = 0; bits = 0; bit_errors = 0; block_errors = 0 } =
    (λ i. record { blocks = e.1.0.0 i; bits = e.1.0.1.0 i; bit_errors = e.1.0.1.1.0 i; block_errors = e.1.0.1.1.1 i }) in
    let ratio = to_z w8 (of_z w8 c.args.decibels) in
    always (Stands c.new-air.result ratio 0 c.new-air.result (record { decibels = ratio; count = c.default.result.count; score = c.default.result.score }))
    (row_scheme c.args.run.choice.row c.args.run.choice.constraint) (λ s. (refl, λ i. record { decibels = ratio; count = none i; score = e.1.1 i }))

pub loop-preserved : goal.loop-preserved
loop-preserved c =
    one_more (row_scheme c.args.run.choice.row c.args.run.choice.constraint) c.new-air.result c.loop.air c.run_trial.new.air (to_z w8 (of_z w8 c.args.decibels))
    c.loop.counter c.loop.dot c.add.new.self c.in_ok-run_trial.field-0 c.loop.invariant c.in_ok-run_trial.ensures.trial c.in_ok-run_trial.ensures.air c.add.ensures

pub returns : goal.returns
returns c =
    let run = c.args.run in
    let all : c.loop.counter ≡ run.blocks = search rules in
    let same : to_z w8 (of_z w8 c.args.decibels) ≡ c.args.decibels = search rules in
    subst (λ z. IsDot run z c.loop.dot) same
    (finished run _ c.new-air.result c.loop.air c.loop.counter c.loop.dot all c.new-air.ensures c.loop.invariant)
