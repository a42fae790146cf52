use Rattle.std.proofs.Common.{◌≡◌, rules, sym, ap, ◌∙◌, w16, to_z, of_z, pos, negsuc}
use Rattle.std.specs.Float.{float_round, float_to_signed}
use Rattle.std.specs.Float.Ieee.{binary64, add, mul}
use Rattle.std.specs.Int.{int_max, int_min}
use Rattle.speed.specs.Values.{amplitude, point}
use Rattle.speed.proofs.source.Source.value_of.Goals as goal
use Rattle.speed.proofs.source.Source.value_of.Goals.{then-bit, else-bit}

pub returns-clause-value : goal.returns-clause-value
unfolding lib.Ieee.of_bits
returns-clause-value c =
    let clamped : to_z w16 (of_z w16 c.clamp.result) ≡ c.clamp.result = search rules in
    let whole : to_z w16 (of_z w16 c.saturating_f64_to_i16.result) ≡ c.saturating_f64_to_i16.result = search rules in
    let sent : c.if-bit.point ≡ point c.args.bit =
    elim c.if-bit.branch [
      | then-bit w ↦ w.point-is ∙ ap point (sym w.if-bit.true)
      | else-bit w ↦ w.point-is ∙ ap point (sym w.if-bit.false)
    ] in
    let noise = c.args.self.now.noise in
    clamped ∙ c.clamp.ensures.value
    ∙ ap (λ z. int_max (negsuc 126) (int_min z (pos 127)))
    (whole ∙ c.saturating_f64_to_i16.ensures ∙ ap (float_to_signed w16)
    (c.round.ensures ∙ (λ i. float_round binary64 (mul binary64 (add binary64 (sent i) (mul binary64 noise (c.draw_normal.ensures.value i))) amplitude))))
