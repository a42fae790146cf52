use Rattle.std.proofs.Common.{◌≡◌, length, sym, refl, rules}
use Rattle.std.proofs.lemmas.List.{nil_from_length}
use Rattle.lines.proofs.fields.read_look.Goals as goal

pub returns : goal.returns
returns c =
    let none : length c.args.bytes.now ≡ 0 = search rules in
    (refl, tt, sym (nil_from_length c.args.bytes.now none))
