-- The numbers before the first that is none are numbers.
use Rattle.std.proofs.Common.{inl, inr}
use Rattle.std.proofs.lemmas.Result.{err_from_is_err_and}
use Rattle.orders.proofs.reading.choice_of.Goals as goal

pub returns-in_err-interleaver : goal.returns-in_err-interleaver
returns-in_err-interleaver c =
    let p = err_from_is_err_and c.from_residual-in_err-interleaver.result c.from_residual-in_err-interleaver.ensures.1 in
    rw (p.1, p.2) (inr (_, c.in_ok-bandwidth.ensures.read, inr (_, c.in_ok-waveform.ensures.read, inl (c.in_err-interleaver.ensures.read, c.in_err-interleaver.ensures.told))))

pub returns-in_err-constraint : goal.returns-in_err-constraint
returns-in_err-constraint c =
    let p = err_from_is_err_and c.from_residual-in_err-constraint.result c.from_residual-in_err-constraint.ensures.1 in
    rw (p.1, p.2)
    (inr (_, c.in_ok-bandwidth.ensures.read, inr (_, c.in_ok-waveform.ensures.read, inr (_, c.in_ok-interleaver.ensures.read, inl (c.in_err-constraint.ensures.read, c.in_err-constraint.ensures.told)))))
