use Rattle.std.proofs.Common.{◌≡◌, ◌%◌, ◌<◌, length, get_or, refl, arith, rules}
use Rattle.lines.proofs.Fielded.{spelled}
use Rattle.lines.proofs.fields.read_hear.Goals as goal

pub returns : goal.returns
returns c =
    let bytes = c.args.bytes.now in
    let long : length bytes ≡ 6 = search rules in
    let index : get_or bytes 3 0 < 256 = (c.type_inv.bytes 3).fits in
    let same : get_or bytes 3 0 % 256 ≡ get_or bytes 3 0 = omega arith in
    (refl, (c.three-place.ensures.small, (index, (c.two-weight.type_inv, tt))), cc (spelled 6 bytes long, c.three-place.ensures.value, c.two-weight.ensures, same))
