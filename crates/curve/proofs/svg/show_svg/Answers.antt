use Rattle.std.proofs.Common.{OnOk, subst}
use Rattle.std.specs.Io.KnownBytes.{Appends}
use Rattle.curve.specs.Pictures.{picture_of_width}
use Rattle.curve.proofs.svg.show_svg.Goals as goal

pub returns : goal.returns
returns g c =
    subst
    (λ wide. OnOk c.write.result (Appends (g.W.Write.contents c.args.output.now) (g.W.Write.contents c.write.new.self) (picture_of_width wide c.args.choice c.args.dots.now)))
    c.across-wide.ensures c.write.ensures.bytes
