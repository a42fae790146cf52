use Rattle.std.proofs.Common.{ap, ◌∙◌, subst}
use Rattle.std.specs.Io.KnownBytes.{Appends}
use Rattle.std.proofs.KnownBytes.{Appends-kept}
use Rattle.reception.specs.Written.{shown_text}
use Rattle.reception.proofs.Received.{always}
use Rattle.reception.proofs.receiving.write_shown.Goals as goal

pub returns : goal.returns
returns g c =
    let score = c.text-score.result in
    let block = c.block-block.result.now in
    let same = ap (λ s. shown_text s block) c.text-score.ensures ∙ ap (shown_text (g.K.WrittenKind.written c.args.score)) c.block-block.ensures in
    always c.flush.result _ (subst (Appends (g.W.Write.contents c.args.output.now) (g.W.Write.contents c.flush.new.self)) same (Appends-kept _ _ _ (shown_text score block) c.in_ok-write.ensures.bytes c.flush.ensures.bytes))
