use Rattle.std.proofs.Common.{length, ap, arith}
use Rattle.orders.specs.Slips.{rows_words}
use Rattle.orders.proofs.Words.{length-bytes_of}
use Rattle.orders.proofs.reading.rows_order.Goals as goal

pub returns-in_default : goal.returns-in_default
returns-in_default c = rows_words (λ e. let n = ap length e in omega (arith, length-bytes_of c.args.words.now, c.in_default.len_at_least))
