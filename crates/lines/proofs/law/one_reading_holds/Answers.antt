use Rattle.lines.proofs.Unique.{one_reading}
use Rattle.lines.proofs.law.one_reading_holds.Goals as goal

pub returns : goal.returns
returns c = one_reading
