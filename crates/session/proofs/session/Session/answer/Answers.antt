use Rattle.session.specs.Sessions.{held}
use Rattle.session.proofs.Answered.{said_accepted, said_refused}
use Rattle.session.proofs.session.Session.answer.Goals as goal

pub returns-in-Ok : goal.returns-in-Ok
returns-in-Ok c line kept = said_accepted (held c.args.self.now) (held c.carry_out_line.new.self) line c.args.number c.in-Ok.answer (c.in-Ok.ensures line kept)

pub returns-in-Err : goal.returns-in-Err
returns-in-Err c line kept =
    said_refused (held c.args.self.now) (held c.carry_out_line.new.self) line c.args.number c.in-Err.fault c.refusal.result c.refusal.ensures (c.in-Err.ensures line kept)
