use Rattle.std.proofs.Common.{Err, refl, ap, ◌∙◌, inl, inr}
use Rattle.std.proofs.lemmas.Result.{err_from_is_err_and}
use Rattle.session.proofs.session.Session.carry_out_line.Goals as goal

pub returns : goal.returns
returns c line kept =
    let d = c.carry_out.ensures in
    inl (c.in_ok-command.command, c.in_ok-command.ensures line kept, d.answer, d.reply, d.after)

pub returns-in_err-command : goal.returns-in_err-command
returns-in_err-command c line kept =
    let p = err_from_is_err_and c.from_residual.result c.from_residual.ensures.1 in
    let no_form = c.in_err-command.ensures line kept in
    inr (λ d w. no_form.1 (d, w), p.1 ∙ ap Err (p.2 ∙ no_form.0), refl)
