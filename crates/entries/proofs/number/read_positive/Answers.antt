use Rattle.std.proofs.Common.{arith}
use Rattle.entries.proofs.Numbers.{one_number}
use Rattle.entries.proofs.number.read_positive.Goals as goal

pub returns-in_default : goal.returns-in_default
returns-in_default c n high e =
    let read = c.in_ok-size.ensures in
    let same = one_number n c.in_ok-size.size c.args.word.now (omega arith) read.0 e read.1 in
    omega arith
