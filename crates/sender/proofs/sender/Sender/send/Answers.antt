use Rattle.std.proofs.Common.{◌≡◌, ◌*◌, ◌++◌, length, drop, sym, refl, ap, ◌∙◌, arith}
use Rattle.std.proofs.lemmas.List.{with_items_is}
use Rattle.std.proofs.lemmas.Result.{err_from_is_err_and}
use Rattle.plan.specs.Faults.{chain_number, outcome}
use Rattle.plan.specs.Plans.{plan_scheme}
use Rattle.plan.proofs.Facts.{facts}
use Rattle.code.specs.Coding.{word}
use Rattle.code.specs.Numbers.{bits_of}
use Rattle.sender.proofs.Answering.{block_encoded, fit_passes, block_refused, all_yes}
use Rattle.sender.proofs.Outcomes.{positive}
use Rattle.sender.proofs.Sent.{array_of, transmitted}
use Rattle.sender.proofs.sender.Sender.send.Goals as goal

pub returns-clause-answer : goal.returns-clause-answer
returns-clause-answer g c =
    let sender = c.args.self.now in
    let s = plan_scheme sender.plan.now in
    let block = c.args.block.now in
    all_yes s (g.S.Scrambler.meaning sender.scrambler) block (length c.args.out.now) sender.fit (block_encoded s block _ c.in_ok-encode.ensures.answer) (omega arith)

pub returns-clause-after : goal.returns-clause-after
returns-clause-after g c =
    let sender = c.args.self.now in
    let s = plan_scheme sender.plan.now in
    let m = g.S.Scrambler.meaning sender.scrambler in
    let u = bits_of c.args.block.now in
    let word_now = c.as_slice.ensures.value ∙ with_items_is sender.word c.encode.new.word (c.encode.auto.word ∙ c.as_mut_slice.ensures.len) in
    let array_now = with_items_is sender.array c.load.new.array (c.load.auto.array ∙ c.as_mut_slice-2.ensures.len) in
    let bits : c.as_slice.result.now ≡ word s u ++ drop (2 * s.block) c.as_mut_slice.result.now = word_now ∙ c.in_ok-encode.ensures.after in
    let array = array_of s (facts s sender.plan.now.accepted) u c.as_slice.result.now _ c.as_mut_slice-2.result.now _ bits (c.as_mut_slice-2.ensures.len ∙ sender.array_long) (array_now ∙ c.in_ok-load.ensures.after) in
    transmitted s m m u _ c.write_indices.new.out _ array refl c.write_indices.ensures.after

pub returns-in_err-encode-clause-answer : goal.returns-in_err-encode-clause-answer
returns-in_err-encode-clause-answer g c =
    let sender = c.args.self.now in
    let s = plan_scheme sender.plan.now in
    let block = c.args.block.now in
    let room = length c.args.out.now in
    let p = err_from_is_err_and c.from_residual.result c.from_residual.ensures.1 in
    let fault = c.in_err-encode.field-0.0 in
    ap (outcome chain_number) p.1 ∙ ap chain_number p.2
    ∙ block_refused s block (length c.as_mut_slice.result.now) room (chain_number fault) (omega arith) c.in_err-encode.ensures.answer (positive fault)
    ∙ sym (fit_passes s (g.S.Scrambler.meaning sender.scrambler) block room sender.fit)
