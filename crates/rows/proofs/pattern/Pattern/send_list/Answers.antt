use Rattle.std.proofs.Common.{vec_items, None, refl}
use Rattle.std.specs.Iterator.Adapters.{enumerate_source}
use Rattle.std.proofs.lemmas.Slice.Zip.{either_empty_from_Zip}
use Rattle.rows.proofs.Listing.{listed_all}
use Rattle.rows.proofs.pattern.Pattern.send_list.Goals as goal

pub returns : goal.returns
returns c =
    listed_all (vec_items c.loop-column.list) _ _ _ _ _ (either_empty_from_Zip _ (enumerate_source c.next.new.self) None refl c.in-None.ensures.steps.0) c.loop-column.invariant.whole
