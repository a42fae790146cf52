use Rattle.std.proofs.Common.{ℕ, Ok, Err, refl, ◌∙◌, arith}
use Rattle.std.proofs.lemmas.List.{with_items_is}
use Rattle.std.proofs.lemmas.Result.{err_from_is_err_and}
use Rattle.session.proofs.Called.{called}
use Rattle.session.proofs.session.Session.call.Goals as goal

pub returns : goal.returns
returns g c number leaves makes =
    let s = c.args.self.now in
    let made = makes _ _ _ _ _ c.in_ok-call.ensures in
    let kept = c.requires.keeps _ _ _ _ _ c.in_ok-call.ensures in
    let d = called s c.in-Some.receiver c.call.new.arg2 c.as_mut_slice.result.now _ c.in-Some.is kept c.as_mut_slice.ensures.value number leaves (Ok c.in_ok-call.field-0) made.answer (with_items_is s.memory c.call.new.arg3 (omega arith) ∙ made.after) in
    record { answer = d.answer; after = d.after; reply = refl }

pub returns-in_err-call : goal.returns-in_err-call
returns-in_err-call g c number leaves makes =
    let s = c.args.self.now in
    let p = err_from_is_err_and c.from_residual.result c.from_residual.ensures.1 in
    let made = makes _ _ _ _ _ c.in_err-call.ensures in
    let kept = c.requires.keeps _ _ _ _ _ c.in_err-call.ensures in
    let d = called s c.in-Some.receiver c.call.new.arg2 c.as_mut_slice.result.now _ c.in-Some.is kept c.as_mut_slice.ensures.value number leaves {R = ℕ} (Err c.in_err-call.field-0.0) made.answer (with_items_is s.memory c.call.new.arg3 (omega arith) ∙ made.after) in
    rw (p.1, p.2) (record { answer = d.answer; after = d.after; reply = tt })
