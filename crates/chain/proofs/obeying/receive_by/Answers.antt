use Rattle.std.proofs.Common.{◌≡◌, [], subst}
use Rattle.receiver.specs.Receivers.{view}
use Rattle.reception.specs.Receiving.{ReceivedAll}
use Rattle.replay.specs.Given.{given}
use Rattle.replay.specs.Ledger.{ledger}
use Rattle.scrambler.specs.Meanings.{table_meaning}
use Rattle.search.specs.Looking.{search_answer}
use Rattle.chain.proofs.obeying.receive_by.Goals as goal

pub returns : goal.returns
returns g c =
    let x = c.in_ok-reception.reception in
    let e = c.in_ok-reception.ensures in
    let v = view c.args.plan (table_meaning c.args.table) in
    let w = given x.values.items x.block.items x.scores.items x.marks.items in
    let scale = g.K.Kind.scale in
    let written = g.K.WrittenKind.written in
    let text = g.R.Read.remaining c.args.input in
    let a = c.in_ok-receive.ensures in
    let empty = subst (λ q. x.values.items ≡ ledger q w []) e.made e.zeros in
    let by_view = subst (λ q. ReceivedAll (scale x.kind) written q w text x.values.items a.0 a.1) e.made a.2 in
    let by_kind = subst (λ k. ReceivedAll (scale k) written v w text x.values.items a.0 a.1) e.kind by_view in
    record {
      whole = w;
      said = a.0;
      aside = a.1;
      enough = subst (λ q. search_answer q.scheme w ≡ 0) e.made x.enough;
      received = subst (λ z. ReceivedAll (scale c.args.kind) written v w text z a.0 a.1) empty by_kind;
      all = a.3;
      beside = a.4;
    }
