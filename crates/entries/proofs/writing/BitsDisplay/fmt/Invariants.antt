use Rattle.std.proofs.Common.{take}
use Rattle.std.specs.Fmt.{HasWritten, IsPlainFormatter}
use Rattle.entries.specs.Texts.{bits_text}
use Rattle.entries.proofs.writing.BitsDisplay.fmt.Given as goal

-- the characters of the bits so far are written
abbrev pub invariant-loop-bit : goal.invariant-loop-bit
invariant-loop-bit g l =
    IsPlainFormatter l.initial.f → HasWritten g.W.Write.write_str_gives l.initial.f (bits_text (take l.bit-index l.bit-items)) l.f
