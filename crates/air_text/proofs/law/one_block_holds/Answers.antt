use Rattle.air_text.proofs.Told.{one_block}
use Rattle.air_text.proofs.law.one_block_holds.Goals as goal

pub returns : goal.returns
returns c = one_block
