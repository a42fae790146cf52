use Rattle.std.proofs.Common.{◌≡◌, ◌≤◌, sym, ap, subst, ◌∙◌}
use Rattle.std.specs.Prelude.{if◌then◌else◌}
use Rattle.std.proofs.lemmas.Result.{IfOk-weaker}
use Rattle.plan.specs.Plans.{plan_scheme}
use Rattle.plan.proofs.Facts.{facts}
use Rattle.scrambler.specs.Meanings.{table_meaning}
use Rattle.scrambler.specs.Questions.{making_answer, table_fits}
use Rattle.sender.specs.Scrambling.{needed_width}
use Rattle.sender.proofs.Outcomes.{accepted}
use Rattle.laboratory.specs.Tabling.{first_drawn}
use Rattle.laboratory.proofs.Tabled.{drawn_fit, table_of_drawn}
use Rattle.laboratory.proofs.table.register_table.Goals as goal

pub register_values-requires-clause-reached : goal.register_values-requires-clause-reached
register_values-requires-clause-reached c =
    subst (λ p. p.frame_length ≤ 4096) (sym c.parts-2.ensures) (facts (plan_scheme c.args.plan.now) c.args.plan.now.accepted).frame_high

pub returns-clause-table : goal.returns-clause-table
returns-clause-table c =
    let s = plan_scheme c.args.plan.now in
    let width : c.needed_width-width.result ≡ needed_width s.bits = c.needed_width-width.ensures ∙ ap (λ p. needed_width p.symbol_bits) c.parts.ensures in
    let frame : c.parts-2.result.now.frame_length ≡ s.frame = ap (λ p. p.frame_length) c.parts-2.ensures in
    let values = c.in_ok-values.ensures.values ∙ (λ k. first_drawn (width k) (frame k)) in
    IfOk-weaker c.new.result _ _ (λ t e. table_of_drawn s (table_meaning t) (e ∙ (λ k. record { width = width k; values = values k }))) c.new.ensures.made

pub returns-clause-answer : goal.returns-clause-answer
returns-clause-answer c =
    let s = plan_scheme c.args.plan.now in
    let width : c.needed_width-width.result ≡ needed_width s.bits = c.needed_width-width.ensures ∙ ap (λ p. needed_width p.symbol_bits) c.parts.ensures in
    let frame : c.parts-2.result.now.frame_length ≡ s.frame = ap (λ p. p.frame_length) c.parts-2.ensures in
    let values = c.in_ok-values.ensures.values ∙ (λ k. first_drawn (width k) (frame k)) in
    let fit = (λ k. table_fits (width k) (values k)) ∙ drawn_fit s c.args.plan.now.accepted in
    let zero = c.new.ensures.answer ∙ ap making_answer fit in
    zero ∙ ap (λ b. if b then 0 else 255) (sym (accepted c.new.result zero))
