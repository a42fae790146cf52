use Rattle.std.proofs.Common.{◌≡◌, ℕ, List, ◌++◌, refl, subst, inl, inr}
use Rattle.std.specs.Prelude.{OnOk, codes}
use Rattle.std.specs.Io.KnownBytes.{Appends}
use Rattle.plan.specs.Plans.{plan_scheme}
use Rattle.plan.specs.Scheme.{sent_length}
use Rattle.plan.specs.Sentences.{chain_sentence}
use Rattle.rows_check.specs.Refusals.{sizes_text, IsAnswer}
use Rattle.rows_check.proofs.Lines.{on_ok}
use Rattle.rows_check.proofs.refusals.write_answer.Goals as goal

pub returns-in-Ok : goal.returns-in-Ok
returns-in-Ok g c =
    let w = g.W.Write.contents c.args.output.now in
    let u = g.W.Write.contents c.write.new.self in
    let s = plan_scheme c.in-Ok.plan in
    let text = sizes_text s.block (sent_length s) s.frame in
    let same : sizes_text c.parts.result.now.block_length c.sent_length-sent.result c.parts-in-Ok.result.now.frame_length ≡ text =
    λ i. sizes_text (c.parts.ensures i).block_length (c.sent_length-sent.ensures i) (c.parts-in-Ok.ensures i).frame_length in
    on_ok c.write.result (Appends w u text) ((said : List ℕ) × IsAnswer c.args.row c.args.constraint said × Appends w u said)
    (λ last. (text, inl (s, c.in-Ok.ensures.answer, (c.in-Ok.ensures.made, refl)), last)) (subst (λ t. OnOk c.write.result (Appends w u t)) same c.write.ensures.bytes)

pub returns-in-Err : goal.returns-in-Err
returns-in-Err g c =
    let w = g.W.Write.contents c.args.output.now in
    let u = g.W.Write.contents c.write-in-Err.new.self in
    let text = chain_sentence c.in-Err.fault ++ codes "\n" in
    on_ok c.write-in-Err.result (Appends w u text) ((said : List ℕ) × IsAnswer c.args.row c.args.constraint said × Appends w u said)
    (λ last. (text, inr (c.in-Err.fault, c.in-Err.ensures.answer, refl), last)) c.write-in-Err.ensures.bytes
