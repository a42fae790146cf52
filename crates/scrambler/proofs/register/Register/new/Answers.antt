use Rattle.std.proofs.Common.{sym}
use Rattle.scrambler.proofs.Shifting.{loaded}
use Rattle.scrambler.proofs.register.Register.new.Goals as goal

pub invariant_of-result : goal.invariant_of-result
invariant_of-result c = record { stands = sym (loaded c.in_ok-new.field-0.bits) }
