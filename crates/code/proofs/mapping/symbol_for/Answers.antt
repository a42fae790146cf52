use Rattle.std.proofs.Common.{◌≡◌, ◌<◌, ◌≤◌, get_or, sym, ap, ◌∙◌, arith}
use Rattle.std.proofs.lemmas.Grind.{common_steps}
use Rattle.code.specs.Mapping.{phases}
use Rattle.code.proofs.Maps.{symbol_low, symbol_high}
use Rattle.code.proofs.mapping.symbol_for.Goals as goal

pub returns-then-bits-gt3 : goal.returns-then-bits-gt3
returns-then-bits-gt3 c =
    let q = ap (λ p. p.symbol_bits) c.parts.ensures in
    let high : 3 < c.args.plan.now.parts.symbol_bits = omega (arith, q, c.if-bits-gt3.true) in
    sym (symbol_high _ c.args.number high)

pub returns : goal.returns
returns c =
    let q = ap (λ p. p.symbol_bits) c.parts.ensures in
    let low : c.args.plan.now.parts.symbol_bits ≤ 3 = omega (arith, q, c.if-bits-gt3.false) in
    let found : c.unwrap_or.result ≡ get_or c.phases.result.now c.args.number 0 = grind (arith, common_steps) in
    found ∙ ap (λ l. get_or l c.args.number 0) (c.phases.ensures.value ∙ ap phases q) ∙ sym (symbol_low _ c.args.number low)
