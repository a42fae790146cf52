use Rattle.std.proofs.Common.{arith}
use Rattle.entries.proofs.Numbers.{one_number}
use Rattle.entries.proofs.number.read_negative.Goals as goal

pub returns-in_default : goal.returns-in_default
returns-in_default c n low high e =
    let read = c.in_ok-size.ensures in
    let same = one_number n c.in_ok-size.size c.args.word.now (omega arith) read.0 e read.1 in
    omega arith

pub returns-in_default-2 : goal.returns-in_default-2
returns-in_default-2 c n low high e =
    let read = c.in_ok-size.ensures in
    let same = one_number n c.in_ok-size.size c.args.word.now (omega arith) read.0 e read.1 in
    omega arith
