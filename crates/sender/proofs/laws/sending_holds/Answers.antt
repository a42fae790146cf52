use Rattle.sender.proofs.Back.{comes_back}
use Rattle.sender.proofs.Apart.{keeps_differences, sends_alike}
use Rattle.sender.proofs.Groups.{tells_bits}
use Rattle.sender.proofs.laws.sending_holds.Goals as goal

pub returns : goal.returns
returns c = record { back = comes_back; apart = keeps_differences; bits = tells_bits; alike = sends_alike }
