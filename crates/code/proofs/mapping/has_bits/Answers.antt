use Rattle.std.proofs.Common.{◌^◌, ◌<◌, sym, ◌∙◌, arith, pow_mono}
use Rattle.std.proofs.lemmas.Bool.{le-leb, lt-ltb}
use Rattle.code.proofs.mapping.has_bits.Goals as goal

pub returns-then-bits-ge8 : goal.returns-then-bits-ge8
returns-then-bits-ge8 c =
    let below : c.args.number < 2 ^ c.args.bits = omega (arith, pow_mono c.if-bits-ge8.true, c.ranges.number.fits) in
    le-leb 8 c.args.bits c.if-bits-ge8.true ∙ sym (lt-ltb c.args.number (2 ^ c.args.bits) below)
