use Rattle.std.proofs.Common.{◌≡◌, length, refl, rules}
use Rattle.lines.proofs.Fielded.{spelled}
use Rattle.lines.proofs.fields.read_blank.Goals as goal

pub returns : goal.returns
returns c =
    let bytes = c.args.bytes.now in
    let long : length bytes ≡ 3 = search rules in
    (refl, (c.three-place.ensures.small, tt), cc (spelled 3 bytes long, c.three-place.ensures.value))
