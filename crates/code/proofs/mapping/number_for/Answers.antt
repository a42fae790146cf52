use Rattle.std.proofs.Common.{◌≡◌, ℕ, Bool, true, false, refl, ◌^◌, ◌<◌, ◌≤◌, cond, ltb, Some, None, sym, ap, ◌∙◌, arith}
use Rattle.std.specs.Bool.{then_some}
use Rattle.plan.specs.Plans.{plan_scheme}
use Rattle.code.specs.Laws.{Inverts}
use Rattle.code.specs.Mapping.{phases, number_of}
use Rattle.code.proofs.Accepted.{facts_of}
use Rattle.code.proofs.Maps.{number_placed, number_high, inverts}
use Rattle.code.proofs.mapping.number_for.Goals as goal
use Rattle.code.proofs.mapping.number_for.Goals.{After-parts, After-place_in}

chosen : (b : Bool) (y : ℕ) → then_some b y ≡ cond b (Some y) None
chosen true y = refl
chosen false y = refl

undone : (c : After-parts) → Inverts (plan_scheme c.args.plan.now).bits
undone c = inverts _ (facts_of c.args.plan.now).bits_low

placed : (c : After-place_in) → c.place_in.result ≡ number_of (plan_scheme c.args.plan.now).bits c.args.symbol
placed c =
    let q = ap (λ p. p.symbol_bits) c.parts.ensures in
    let low : (plan_scheme c.args.plan.now).bits ≤ 3 = omega (arith, q, c.if-bits-gt3.false) in
    number_placed (plan_scheme c.args.plan.now).bits c.args.symbol c.phases.result.now c.place_in.result low (c.phases.ensures.value ∙ ap phases q) c.place_in.ensures

pub returns-then-bits-gt3 : goal.returns-then-bits-gt3
returns-then-bits-gt3 c =
    let s = plan_scheme c.args.plan.now in
    let y = c.args.symbol in
    let q = ap (λ p. p.symbol_bits) c.parts.ensures in
    let high : 3 < s.bits = omega (arith, q, c.if-bits-gt3.true) in
    record {
      value = c.then_some.ensures ∙ chosen c.has_bits.result y ∙ ap (λ b. cond b (Some y) None) (c.has_bits.ensures ∙ ap (λ n. ltb y (2 ^ n)) q) ∙ sym (number_high s.bits y high);
      inverts = undone (goal.at.returns-then-bits-gt3 c).After-parts;
    }

pub returns-in_err-place : goal.returns-in_err-place
returns-in_err-place c =
    let whole = placed (goal.at.returns-in_err-place c).After-place_in in
    record { value = c.from_residual.ensures ∙ sym c.in_err-place.was ∙ whole; inverts = undone (goal.at.returns-in_err-place c).After-parts }

pub returns : goal.returns
returns c =
    let whole = placed (goal.at.returns c).After-place_in in
    record { value = sym c.in_ok-place.was ∙ whole; inverts = undone (goal.at.returns c).After-parts }
