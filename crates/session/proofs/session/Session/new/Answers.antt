use Rattle.std.proofs.lemmas.Result.{IfOk-from_err}
use Rattle.session.proofs.session.Session.new.Goals as goal

pub returns-in_err-vec-2 : goal.returns-in_err-vec-2
returns-in_err-vec-2 c = IfOk-from_err c.from_residual-in_err-vec-2.result _ c.from_residual-in_err-vec-2.ensures.0
