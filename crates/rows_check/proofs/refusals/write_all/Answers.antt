use Rattle.std.proofs.Common.{◌≡◌, rules}
use Rattle.rows_check.specs.Refusals.{asked}
use Rattle.rows_check.proofs.Lines.{shown_none, shown_more, shown_all}
use Rattle.rows_check.proofs.refusals.write_all.Goals as goal

pub loop-bandwidth-init : goal.loop-bandwidth-init
loop-bandwidth-init g c = shown_none asked (g.W.Write.contents c.args.output.now)

pub loop-bandwidth-preserved : goal.loop-bandwidth-preserved
loop-bandwidth-preserved g c =
    let said = c.in_ok-write_line.ensures in
    shown_more asked c.loop-bandwidth.bandwidth-index (g.W.Write.contents c.args.output.now) (g.W.Write.contents c.loop-bandwidth.output)
    (g.W.Write.contents c.write_line.new.output) _ said.0 c.loop-bandwidth-test.true c.loop-bandwidth.invariant said.1 said.2

pub returns : goal.returns
returns g c =
    let done : c.loop-bandwidth.bandwidth-index ≡ 7 = search rules in
    shown_all asked c.loop-bandwidth.bandwidth-index (g.W.Write.contents c.args.output.now) (g.W.Write.contents c.loop-bandwidth.output) done c.loop-bandwidth.invariant
