use Rattle.std.proofs.Common.{take}
use Rattle.std.specs.Fmt.{HasWritten, IsPlainFormatter}
use Rattle.air_text.specs.Lines.{place_lines}
use Rattle.air_text.proofs.lines.PlaceLinesDisplay.fmt.Given as goal

-- the lines of the places so far are written
abbrev pub invariant-loop-place : goal.invariant-loop-place
invariant-loop-place g l =
    IsPlainFormatter l.initial.f → HasWritten g.W.Write.write_str_gives l.initial.f (place_lines 0 (take l.place l.self.0.now)) l.f
