use Rattle.std.proofs.Common.{◌∙◌, subst}
use Rattle.std.specs.Io.KnownBytes.{Appends}
use Rattle.lines.proofs.Following.{on_ok}
use Rattle.bench.proofs.write_answer.Goals as goal

pub returns : goal.returns
returns g c = λ text kept.
    let old = g.W.Write.contents c.args.output.now in
    let new = g.W.Write.contents c.write_all.new.self in
    let said = c.as_bytes.ensures.value ∙ c.as_str.ensures.value ∙ c.in_ok-text.ensures in
    on_ok c.write_all.result _ _ (λ a. (c.answer-answer.result, c.answer-answer.ensures text kept, subst (Appends old new) said a)) c.write_all.ensures.bytes
