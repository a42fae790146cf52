use Rattle.std.proofs.Common.{inl}
use Rattle.bench.proofs.answer.Goals as goal

pub returns-in-Ok : goal.returns-in-Ok
returns-in-Ok c text kept = inl (c.answer.ensures text kept)
