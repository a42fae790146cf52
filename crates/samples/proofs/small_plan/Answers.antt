use Rattle.std.proofs.Common.{inl}
use Rattle.samples.proofs.Small.{refused_answer}
use Rattle.samples.proofs.small_plan.Goals as goal

pub returns-in_err-new-clause-answer : goal.returns-in_err-new-clause-answer
returns-in_err-new-clause-answer c =
    inl (refused_answer _ _ c.args.constraint _ c.from_residual-in_err-new.ensures.1 c.in_ok-vec.ensures.items c.in_err-new.ensures.answer)
