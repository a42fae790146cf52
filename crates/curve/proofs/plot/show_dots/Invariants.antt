use Rattle.std.proofs.Common.{take}
use Rattle.std.specs.Io.KnownBytes.{Appends}
use Rattle.curve.specs.Plots.{dots_text}
use Rattle.curve.proofs.plot.show_dots.Given as goal

-- the lines so far are written
abbrev pub invariant-loop-dot : goal.invariant-loop-dot
invariant-loop-dot g l = Appends (g.W.Write.contents l.fn.output) (g.W.Write.contents l.output) (dots_text (take l.dot-index l.dots))
