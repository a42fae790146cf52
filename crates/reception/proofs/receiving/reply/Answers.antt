use Rattle.std.proofs.Common.{[], Ok, rules, sym, ap, ◌∙◌}
use Rattle.std.proofs.KnownBytes.{Appends-nil}
use Rattle.std.specs.Io.KnownBytes.{Appends}
use Rattle.std.specs.Result.{OnOk}
use Rattle.entries.specs.Texts.{refusal_text}
use Rattle.reception.specs.Receiving.{answer_text}
use Rattle.reception.specs.Written.{shown_text}
use Rattle.lines.proofs.Following.{on_ok}
use Rattle.reception.proofs.receiving.reply.Goals as goal

pub returns-in-Ok-None-clause-replied : goal.returns-in-Ok-None-clause-replied
returns-in-Ok-None-clause-replied g c whole reads =
    let block = c.answer.new.self.block.items in
    let text = answer_text g.K.WrittenKind.written c.args.number in (
      [],
      record { answer = c.answer.result; block = block; answers = c.answer.ensures.answers whole reads; said = sym (ap (λ r. text r block) c.in-Ok-None.is ∙ ap (λ o. text (Ok o) block) c.in-Ok-None.field-0-is) },
      Appends-nil _,
    )

pub returns-in-Ok-Some-clause-replied : goal.returns-in-Ok-Some-clause-replied
returns-in-Ok-Some-clause-replied g c whole reads =
    let block = c.answer.new.self.block.items in
    let text = answer_text g.K.WrittenKind.written c.args.number in
    let shown = shown_text (g.K.WrittenKind.written c.in-Ok-Some.score) block in
    on_ok c.write_shown.result (Appends (g.W.Write.contents c.args.output.now) (g.W.Write.contents c.write_shown.new.output) shown) _
    (λ a. (shown, record { answer = c.answer.result; block = block; answers = c.answer.ensures.answers whole reads; said = sym (ap (λ r. text r block) c.in-Ok-Some.is ∙ ap (λ o. text (Ok o) block) c.in-Ok-Some.field-0-is) }, a))
    c.write_shown.ensures

pub returns-in-Err-clause-replied : goal.returns-in-Err-clause-replied
returns-in-Err-clause-replied g c whole reads =
    let block = c.answer.new.self.block.items in
    let text = answer_text g.K.WrittenKind.written c.args.number in
    let refused = refusal_text c.in-Err.fault c.args.number in
    let written : OnOk c.write.result (Appends (g.W.Write.contents c.args.output.now) (g.W.Write.contents c.write.new.self) refused) = search rules in
    on_ok c.write.result (Appends (g.W.Write.contents c.args.output.now) (g.W.Write.contents c.write.new.self) refused) _
    (λ a. (refused, record { answer = c.answer.result; block = block; answers = c.answer.ensures.answers whole reads; said = sym (ap (λ r. text r block) c.in-Err.is) }, a))
    written
