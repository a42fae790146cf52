use Rattle.std.proofs.Common.{vec_items, rules}
use Rattle.lines.proofs.Fielded.{fitting_single, packed_single}
use Rattle.lines.proofs.reading.read_command.Goals as goal

pub returns-in-S : goal.returns-in-S
returns-in-S c = (search rules, fitting_single (vec_items c.args.bytes) c.requires.typed, packed_single (vec_items c.args.bytes) c.requires.typed)
