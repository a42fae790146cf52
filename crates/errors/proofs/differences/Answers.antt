use Rattle.std.proofs.Common.{rules, tests, arith}
use Rattle.std.proofs.lemmas.Iterator.{YieldsList-from_slice, YieldsList-from_zip}
use Rattle.std.proofs.lemmas.Iterator.Consumers.{fold_from_yields_List}
use Rattle.errors.proofs.Unequal.{unequal_pairs_is, unequal_pairs_le, with_pair, counted_pairs}
use Rattle.errors.proofs.differences.Goals as goal

pub overflow_add-result : goal.overflow_add-result
overflow_add-result c =
    let xs = c.args.sent.now in
    let ys = c.args.shown.now in
    let count =
    fold_from_yields_List _ with_pair 0 c.fold-unequal.result c.fold-unequal.ensures.ran
    (YieldsList-from_zip (YieldsList-from_slice xs cc) (YieldsList-from_slice ys cc))
    (λ a x b q k. search (rules, tests))
    in
    omega (arith, count, counted_pairs xs ys 0 (omega arith), unequal_pairs_le xs ys)

pub returns : goal.returns
returns c =
    let xs = c.args.sent.now in
    let ys = c.args.shown.now in
    let count =
    fold_from_yields_List _ with_pair 0 c.fold-unequal.result c.fold-unequal.ensures.ran
    (YieldsList-from_zip (YieldsList-from_slice xs cc) (YieldsList-from_slice ys cc))
    (λ a x b q k. search (rules, tests))
    in
    omega (arith, count, counted_pairs xs ys 0 (omega arith), unequal_pairs_is xs ys)
