use Rattle.std.proofs.Common.{map, take}
use Rattle.std.specs.Fmt.{HasWritten, IsPlainFormatter}
use Rattle.bits_text.specs.Texts.{digit}
use Rattle.bits_text.proofs.block.BlockTextDisplay.fmt.Given as goal

-- the digits of the bits so far are written
abbrev pub invariant-loop-bit : goal.invariant-loop-bit
invariant-loop-bit g l =
    IsPlainFormatter l.initial.f → HasWritten g.W.Write.write_str_gives l.initial.f (map digit (take l.bit-index l.bit-items)) l.f
