use Rattle.std.proofs.Common.{OnOk, sym, subst}
use Rattle.receiver.specs.Receivers.{view}
use Rattle.scrambler.specs.Meanings.{table_meaning}
use Rattle.chain.specs.Obeying.{Received}
use Rattle.chain.proofs.obeying.receive_scored.Goals as goal

pub returns-in-Total : goal.returns-in-Total
returns-in-Total g c =
    subst (λ kind. OnOk c.receive_by.result (Received kind (view c.args.plan (table_meaning c.args.table)) (g.R.Read.remaining c.args.input) (g.W.Write.contents c.args.output.now)
    (g.W.Write.contents c.receive_by.new.output) (g.P.Write.contents c.args.progress.now) (g.P.Write.contents c.receive_by.new.progress))) (sym c.in-Total.is) c.receive_by.ensures

pub returns-in-Worst : goal.returns-in-Worst
returns-in-Worst g c =
    subst (λ kind. OnOk c.receive_by-in-Worst.result (Received kind (view c.args.plan (table_meaning c.args.table)) (g.R.Read.remaining c.args.input) (g.W.Write.contents c.args.output.now)
    (g.W.Write.contents c.receive_by-in-Worst.new.output) (g.P.Write.contents c.args.progress.now) (g.P.Write.contents c.receive_by-in-Worst.new.progress))) (sym c.in-Worst.is) c.receive_by-in-Worst.ensures

pub returns-in-CountFirst : goal.returns-in-CountFirst
returns-in-CountFirst g c =
    subst (λ kind. OnOk c.receive_by-in-CountFirst.result (Received kind (view c.args.plan (table_meaning c.args.table)) (g.R.Read.remaining c.args.input) (g.W.Write.contents c.args.output.now)
    (g.W.Write.contents c.receive_by-in-CountFirst.new.output) (g.P.Write.contents c.args.progress.now) (g.P.Write.contents c.receive_by-in-CountFirst.new.progress))) (sym c.in-CountFirst.is) c.receive_by-in-CountFirst.ensures
