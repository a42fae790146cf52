use Rattle.bits_text.proofs.Pushed.{comes_back}
use Rattle.bits_text.proofs.Lines.{all_come_back}
use Rattle.bits_text.proofs.law.written_blocks_hold.Goals as goal

pub returns : goal.returns
returns c = record { one = comes_back; all = all_come_back }
