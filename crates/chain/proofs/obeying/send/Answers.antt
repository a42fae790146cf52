use Rattle.std.proofs.Common.{subst}
use Rattle.lines.proofs.Following.{new_reader}
use Rattle.plan.specs.Plans.{plan_scheme}
use Rattle.scrambler.specs.Meanings.{table_meaning}
use Rattle.chain.specs.Obeying.{OnAir}
use Rattle.chain.proofs.obeying.send.Goals as goal

pub returns-in-Some : goal.returns-in-Some
returns-in-Some g c y z =
    let held = c.in_ok-input.ensures in
    let begun = new_reader g.R.Read.remaining c.in_ok-input.input c.args.input held.capacity held.empty held.inner in
    let s = plan_scheme c.in_ok-plan.plan in
    let m = table_meaning c.in_ok-table.table in (
      s,
      c.in_ok-plan.ensures.made,
      (
        m,
        c.in_ok-table.ensures,
        subst (λ t. OnAir s m c.args.settings.drawing t (g.W.Write.contents c.args.output.now) (g.W.Write.contents c.send_all.new.output)) begun c.in_ok-send_all-in-Some.ensures.air,
      ),
    )
