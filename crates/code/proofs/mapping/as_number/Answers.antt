use Rattle.std.proofs.Common.{◌≡◌, length, ◌∙◌, arith, rules}
use Rattle.std.specs.List.{fold}
use Rattle.code.specs.Numbers.{num, read}
use Rattle.code.proofs.Blocks.{appended, appended_num, num_small}
use Rattle.code.proofs.mapping.as_number.Goals as goal
use Rattle.code.proofs.mapping.as_number.Goals.{After-fold}

written : (c : After-fold) → c.fold.result ≡ num (read c.args.bits.now) (length c.args.bits.now) 0
written c =
    let folded : c.fold.result ≡ fold appended 0 c.args.bits.now = search rules in
    folded ∙ appended_num c.args.bits.now (omega (arith, c.requires))

pub overflow_cast-result : goal.overflow_cast-result
overflow_cast-result c = record { fits = omega (arith, written c, num_small (read c.args.bits.now) (length c.args.bits.now) 0 c.requires) }

pub returns : goal.returns
returns c = written c
