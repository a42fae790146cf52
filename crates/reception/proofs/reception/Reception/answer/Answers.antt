use Rattle.std.proofs.Common.{Ok, Err, sym, refl, ap, ◌∙◌, subst, inl, inr}
use Rattle.std.proofs.lemmas.Result.{err_from_is_err_and}
use Rattle.entries.specs.Readings.{LineReading}
use Rattle.reception.specs.Answering.{carried}
use Rattle.reception.proofs.reception.Reception.answer.Goals as goal

pub returns-in_err-take-in-Some-clause-answers : goal.returns-in_err-take-in-Some-clause-answers
returns-in_err-take-in-Some-clause-answers g c whole reads =
    let p = err_from_is_err_and c.from_residual-in_err-take-in-Some.result c.from_residual-in_err-take-in-Some.ensures.1 in
    inl (
      c.in-Some.entry,
      subst (LineReading whole) (c.in_ok-entry.was ∙ ap Ok c.in-Some.is) reads,
      (c.take.result, c.take.ensures.takes, p.1 ∙ ap Err p.2 ∙ sym (ap carried c.in_err-take-in-Some.was)),
    )

pub returns-in_ok-take-in-Some-clause-answers : goal.returns-in_ok-take-in-Some-clause-answers
returns-in_ok-take-in-Some-clause-answers g c whole reads =
    inl (
      c.in-Some.entry,
      subst (LineReading whole) (c.in_ok-entry.was ∙ ap Ok c.in-Some.is) reads,
      (c.take.result, c.take.ensures.takes, sym (ap carried c.in_ok-take-in-Some.was)),
    )

pub returns-in-None-clause-answers : goal.returns-in-None-clause-answers
returns-in-None-clause-answers g c whole reads =
    inr (inl (subst (LineReading whole) (c.in_ok-entry.was ∙ ap Ok c.in-None.is) reads, refl, refl))
