use Rattle.std.proofs.Common.{ℕ, List, ◌++◌, refl}
use Rattle.std.specs.Io.KnownBytes.{Appends}
use Rattle.std.proofs.KnownBytes.{Appends-trans}
use Rattle.rows_check.specs.Refusals.{question_text, IsAnswer, IsLine}
use Rattle.rows_check.proofs.Lines.{on_ok}
use Rattle.rows_check.proofs.refusals.write_line.Goals as goal

pub returns : goal.returns
returns g c =
    let row = c.args.row in
    let k = c.args.constraint in
    let w = g.W.Write.contents c.args.output.now in
    let v = g.W.Write.contents c.write.new.self in
    let u = g.W.Write.contents c.write_answer.new.output in
    on_ok c.write_answer.result ((text : List ℕ) × IsAnswer row k text × Appends v u text) ((text : List ℕ) × IsLine row k text × Appends w u text)
    (λ last. (question_text row k ++ last.0, (last.0, last.1, refl), Appends-trans w v u (question_text row k) last.0 c.in_ok-write.ensures.bytes last.2)) c.write_answer.ensures
