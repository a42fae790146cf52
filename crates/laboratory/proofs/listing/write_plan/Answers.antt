use Rattle.std.proofs.Common.{◌/◌, ◌++◌, subst}
use Rattle.std.specs.Io.KnownBytes.{Appends}
use Rattle.plan.specs.Parts.{scheme}
use Rattle.plan.specs.Plans.{plan_scheme}
use Rattle.plan.specs.Scheme.{sent_length}
use Rattle.rows.specs.Rows.{row_entry}
use Rattle.laboratory.specs.Listing.{lines_of, asked_lines, rate_lines, size_lines, order_lines, list_lines}
use Rattle.laboratory.proofs.Sent.{appends_both}
use Rattle.laboratory.proofs.TextSent.{on_ok_map}
use Rattle.laboratory.proofs.listing.write_plan.Goals as goal

pub returns : goal.returns
returns g c =
    let s = plan_scheme c.args.plan.now in
    let text = g.W.Write.contents in
    let asked = lines_of (asked_lines c.args.row s.constraint) in
    let rate = lines_of (rate_lines (row_entry c.args.row)) in
    let sizes = lines_of (size_lines s (sent_length s)) in
    let order = lines_of (order_lines s (sent_length s / s.bits)) in
    let list = lines_of (list_lines s) in
    let old = text c.args.output.now in
    let a = text c.write_asked.new.output in
    let b = text c.write_rate.new.output in
    let d = text c.write_sizes.new.output in
    let e = text c.write_order.new.output in
    let new = text c.write_list.new.output in
    let sized : Appends b d sizes = subst (Appends b d) (λ k. lines_of (size_lines (scheme (c.parts.ensures k)) (c.sent_length.ensures k))) c.in_ok-write_sizes.ensures in
    let ordered : Appends d e order = subst (Appends d e) (λ k. lines_of (order_lines (scheme (c.parts-2.ensures k)) (c.symbols.ensures k))) c.in_ok-write_order.ensures in
    on_ok_map c.write_list.result
    (λ last.
    appends_both old a new asked (rate ++ (sizes ++ (order ++ list))) c.in_ok-write_asked.ensures
    (appends_both a b new rate (sizes ++ (order ++ list)) c.in_ok-write_rate.ensures
    (appends_both b d new sizes (order ++ list) sized (appends_both d e new order list ordered last))))
    c.write_list.ensures
