use Rattle.std.proofs.Common.{vec_items, refl}
use Rattle.rows.proofs.Listing.{column_all}
use Rattle.rows.proofs.pattern.Pattern.list_column.Goals as goal

pub returns : goal.returns
returns c h =
    column_all (vec_items c.args.list.now) (vec_items c.list_if_sent.new.list) (vec_items c.list_if_sent-2.new.list)
    c.args.self.repeats c.args.column c.first_entry-entry.result c.args.first c.args.second
    c.first_entry-entry.ensures (c.in_ok-list_if_sent.ensures refl) (c.list_if_sent-2.ensures h)
