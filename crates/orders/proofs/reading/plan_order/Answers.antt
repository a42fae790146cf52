use Rattle.std.proofs.Common.{length, ap, arith}
use Rattle.std.proofs.lemmas.Result.{err_from_is_err_and}
use Rattle.orders.specs.Slips.{plan_row, plan_words}
use Rattle.orders.proofs.Words.{length-bytes_of}
use Rattle.orders.proofs.reading.plan_order.Goals as goal

pub returns-in_err-choice : goal.returns-in_err-choice
returns-in_err-choice c =
    let p = err_from_is_err_and c.from_residual.result c.from_residual.ensures.1 in
    rw (p.1, p.2) (plan_row c.in_err-choice.ensures)

pub returns-in_default : goal.returns-in_default
returns-in_default c =
    plan_words _ c.in_ok-choice.ensures (λ e. let n = ap length e in omega (arith, length-bytes_of c.in_ok-choice.field-0.1.now, c.in_default.len_at_least))
