use Rattle.bits_text.proofs.Standing.{each_stands}
use Rattle.bits_text.proofs.law.readers_stand_holds.Goals as goal

pub returns : goal.returns
returns c = each_stands
