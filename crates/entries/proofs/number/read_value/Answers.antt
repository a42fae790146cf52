use Rattle.std.proofs.Common.{arith}
use Rattle.entries.proofs.Numbers.{negative_read, minus_first}
use Rattle.entries.proofs.number.read_value.Goals as goal

pub returns-in-45 : goal.returns-in-45
returns-in-45 c = negative_read c.args.word.now _ c.read_negative.result (minus_first c.args.word.now c.in-45.len_at_least (omega arith)) c.read_negative.ensures
