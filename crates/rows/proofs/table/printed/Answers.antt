use Rattle.std.proofs.Common.{rules}
use Rattle.rows.specs.Table.{table}
use Rattle.rows.proofs.table.printed.Goals as goal

pub returns : goal.returns
unfolding table
returns c = search rules
