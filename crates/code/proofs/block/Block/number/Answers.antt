use Rattle.std.proofs.Common.{◌≡◌, ◌+◌, ◌-◌, map, ◌∙◌, arith, rules}
use Rattle.std.specs.List.{fold, range_with_len}
use Rattle.std.proofs.lemmas.Iterator.{YieldsList-from_range, YieldsList-from_map}
use Rattle.std.proofs.lemmas.Iterator.Consumers.{fold_from_yields_List}
use Rattle.code.specs.Blocks.{block_scheme, block_bits}
use Rattle.code.specs.Coding.{around}
use Rattle.code.proofs.Blocks.{appended, appended_range}
use Rattle.code.proofs.block.Block.number.Goals as goal

pub returns : goal.returns
returns c =
    let f = around (block_scheme c.args.self.now) (block_bits c.args.self.now) in
    let first = c.args.first in
    let n = c.args.count in
    let size : first + n - first ≡ n = omega arith in
    let folded : c.fold.result ≡ fold appended 0 (map f (range_with_len first n)) =
    fold_from_yields_List _ appended 0 c.fold.result c.fold.ensures.ran
    (YieldsList-from_map _ f (YieldsList-from_range first (first + n) n c.map.ensures.source size) c.map.ensures.closure (λ x r q k. search rules))
    (λ a x b q k. search rules) in
    folded ∙ appended_range f n first (omega (arith, c.requires.1))
