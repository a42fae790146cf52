use Rattle.std.proofs.Common.{◌*◌, ◌%◌, ap, ◌∙◌}
use lib.Bits.{bit_and, bit_or}
use Rattle.scrambler.proofs.Shifting.{shift_coded}
use Rattle.scrambler.proofs.register.drawing.shifted_once.Goals as goal

pub returns : goal.returns
returns c =
    let r = c.args.state in
    ap (λ b. bit_and (bit_or ((r * 2) % 65536) b) 511) c.fresh_bit.ensures ∙ shift_coded r c.requires
