use Rattle.std.proofs.Common.{◌≡◌, ap, to_z, of_z, w8, rules}
use Rattle.std.proofs.Output.{has_written_of_eq}
use Rattle.curve.specs.Pictures.{circle_text}
use Rattle.curve.proofs.svg.CircleDisplay.fmt.Goals as goal

pub returns-clause-writes : goal.returns-clause-writes
returns-clause-writes g c = λ plain ok.
    let circle = c.args.self.now in
    let same : to_z w8 (of_z w8 circle.decibels) ≡ circle.decibels = search rules in
    has_written_of_eq _ _ _ _ _ (ap (circle_text circle.place.x circle.place.y) same) (c.write.ensures.writes plain ok)
