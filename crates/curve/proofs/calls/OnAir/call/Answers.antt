use Rattle.std.proofs.Common.{◌≡◌, ◌++◌, [], ◌∷◌, sym, ap, ◌∙◌, append_assoc, arith}
use Rattle.channel.specs.Airs.{aired}
use Rattle.channel.specs.declared.air.Air.{Air}
use Rattle.plan.specs.Plans.{plan_scheme}
use Rattle.replay.specs.declared.call.Call.TheVariants.{Blank}
use Rattle.scrambler.specs.Meanings.{table_meaning}
use Rattle.curve.specs.Calls.{drawn_on, hearing}
use Rattle.curve.proofs.Turns.{calls_blanked, calls_again, calls_once, left_low, left_again, left_high}
use Rattle.curve.proofs.calls.OnAir.call.Goals as goal
use Rattle.curve.proofs.calls.OnAir.call.Goals.{then-chance-eq1+in_ok-push-2, else-chance-eq1+then-chance-lt10+in_ok-hearing+in_ok-push-3, else-chance-eq1+else-chance-lt10}

pub returns-clause-calls : goal.returns-clause-calls
returns-clause-calls c =
    let s = plan_scheme c.args.self.now.plan.now in
    let m = table_meaning c.args.table.now in
    let indices = c.args.self.now.indices.now in
    let air = c.args.air.now in
    let place = c.args.place in
    let first = c.args.first in
    let before = c.args.calls.now.items in
    let n = c.draw_below-chance.result in
    let drawn = c.draw_below-chance.ensures.value in
    let drawn_air : Air = record { generator = c.draw_below-chance.new.self; amplitude = air.amplitude; noise = air.noise } in
    let after : drawn_air ≡ drawn_on 1 air = λ i. record { generator = record { state = c.draw_below-chance.ensures.after i }; amplitude = air.amplitude; noise = air.noise } in
    let pushed : c.push.new.self.items ≡ before ++ first ∷ [] = c.in_ok-push.ensures.items in
    elim c.if-chance-eq1.branch [
      | then-chance-eq1+in_ok-push-2 w ↦
          ap (λ v. v.items) w.calls-is ∙ w.in_ok-push-2.ensures.items ∙ (λ i. pushed i ++ Blank (w.sent_length-lent.ensures i) place ∷ [])
          ∙ append_assoc before (first ∷ []) _ ∙ ap (λ l. before ++ l) (sym (calls_blanked s m indices air place first n drawn w.if-chance-eq1.true))
      | else-chance-eq1+then-chance-lt10+in_ok-hearing+in_ok-push-3 w ↦
          let heard : w.in_ok-hearing.field-0 ≡ hearing s m indices (drawn_on 1 air) place = w.in_ok-hearing.ensures.call ∙ (λ i. hearing s m indices (after i) place) in
          ap (λ v. v.items) w.calls-is ∙ w.in_ok-push-3.ensures.items ∙ (λ i. pushed i ++ heard i ∷ []) ∙ append_assoc before (first ∷ []) _
          ∙ ap (λ l. before ++ l) (sym (calls_again s m indices air place first n drawn c.if-chance-eq0.false w.if-chance-eq1.false w.if-chance-lt10.true))
      | else-chance-eq1+else-chance-lt10 w ↦
          ap (λ v. v.items) w.calls-is ∙ pushed
          ∙ ap (λ l. before ++ l) (sym (calls_once s m indices air place first n drawn c.if-chance-eq0.false w.if-chance-eq1.false w.if-chance-lt10.false))
    ]

pub returns-clause-air : goal.returns-clause-air
returns-clause-air c =
    let air = c.args.air.now in
    let n = c.draw_below-chance.result in
    let drawn = c.draw_below-chance.ensures.value in
    let drawn_air : Air = record { generator = c.draw_below-chance.new.self; amplitude = air.amplitude; noise = air.noise } in
    let after : drawn_air ≡ drawn_on 1 air = λ i. record { generator = record { state = c.draw_below-chance.ensures.after i }; amplitude = air.amplitude; noise = air.noise } in
    elim c.if-chance-eq1.branch [
      | then-chance-eq1+in_ok-push-2 w ↦ w.air-is ∙ after ∙ sym (left_low air n drawn (omega (arith, w.if-chance-eq1.true)))
      | else-chance-eq1+then-chance-lt10+in_ok-hearing+in_ok-push-3 w ↦
          w.air-is ∙ w.in_ok-hearing.ensures.air ∙ ap aired after ∙ sym (left_again air n drawn c.if-chance-eq0.false w.if-chance-eq1.false w.if-chance-lt10.true)
      | else-chance-eq1+else-chance-lt10 w ↦ w.air-is ∙ after ∙ sym (left_high air n drawn w.if-chance-lt10.false)
    ]
