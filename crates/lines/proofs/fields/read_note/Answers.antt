use Rattle.std.proofs.Common.{◌≡◌, length, refl, arith, w16, of_z, rules}
use Rattle.std.proofs.lemmas.Int.{of_z-to_z}
use Rattle.lines.proofs.Fielded.{spelled}
use Rattle.lines.proofs.fields.read_note.Goals as goal

pub returns : goal.returns
returns c =
    let bytes = c.args.bytes.now in
    let long : length bytes ≡ 5 = search rules in
    let same = of_z-to_z w16 (of_z w16 c.signed-value.result) c.signed-value.ensures.small in
    (refl, (c.three-location.ensures.small, (omega (arith, same, c.signed-value.ensures.small), tt)), cc (spelled 5 bytes long, c.three-location.ensures.value, c.signed-value.ensures.value, same))
