use Rattle.std.proofs.lemmas.Result.{IfOk-from_err}
use Rattle.session.proofs.command_room.CommandRoom.new.Goals as goal

pub returns-in_err-new : goal.returns-in_err-new
returns-in_err-new c = IfOk-from_err c.from_residual-in_err-new.result _ c.from_residual-in_err-new.ensures.0
