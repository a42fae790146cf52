use Rattle.std.proofs.Common.{refl, ap}
use Rattle.chain.proofs.Obeyed.{obeyed_as}
use Rattle.chain.proofs.obeying.obey.Goals as goal
use Rattle.chain.proofs.obeying.obey.Goals.{in-Rows+in_ok-write_rows-in-Rows, in-Plan+in_ok-show_plan-in-Plan, in-Send+in_ok-send-in-Send, in-Receive+in_ok-receive-in-Receive, in-Count+in_ok-count_files-in-Count}

pub returns : goal.returns
returns g c =
    let text = g.R.Read.remaining c.args.input in
    let writes = g.W.Write.contents in
    let says = g.P.Write.contents in
    let w = writes c.args.output.now in
    let x = writes c.match-order.output in
    let y = says c.args.progress.now in
    let z = says c.match-order.progress in
    elim c.match-order.branch [
      | in-Rows+in_ok-write_rows-in-Rows a ↦ obeyed_as c.args.order _ text w _ x y z z a.in-Rows.is (ap writes a.output-is) refl a.in_ok-write_rows-in-Rows.ensures
      | in-Plan+in_ok-show_plan-in-Plan a ↦ obeyed_as c.args.order _ text w _ x y z z a.in-Plan.is (ap writes a.output-is) refl a.in_ok-show_plan-in-Plan.ensures
      | in-Send+in_ok-send-in-Send a ↦ obeyed_as c.args.order _ text w _ x y z z a.in-Send.is (ap writes a.output-is) refl (a.in_ok-send-in-Send.ensures y z)
      | in-Receive+in_ok-receive-in-Receive a ↦ obeyed_as c.args.order _ text w _ x y _ z a.in-Receive.is (ap writes a.output-is) (ap says a.progress-is) a.in_ok-receive-in-Receive.ensures
      | in-Count+in_ok-count_files-in-Count a ↦ obeyed_as c.args.order _ text w _ x y z z a.in-Count.is (ap writes a.output-is) refl a.in_ok-count_files-in-Count.ensures
    ]
