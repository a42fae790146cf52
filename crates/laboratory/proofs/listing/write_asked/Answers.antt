use Rattle.std.proofs.Common.{ap, subst}
use Rattle.std.specs.Prelude.{OnOk}
use Rattle.std.specs.Io.KnownBytes.{Appends}
use Rattle.laboratory.specs.Listing.{lines_of, asked_lines}
use Rattle.laboratory.proofs.listing.write_asked.Goals as goal

pub returns : goal.returns
returns g c =
    let old = g.W.Write.contents c.args.output.now in
    let new = g.W.Write.contents c.write.new.self in
    subst (λ k. OnOk c.write.result (Appends old new (lines_of (asked_lines c.args.row k)))) (ap (λ p. p.constraint) c.parts.ensures) c.write.ensures.bytes
