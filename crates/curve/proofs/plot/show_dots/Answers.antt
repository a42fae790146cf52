use Rattle.std.proofs.Common.{subst, append-nil, sym}
use Rattle.std.specs.Io.KnownBytes.{Appends}
use Rattle.curve.specs.Plots.{dots_head}
use Rattle.curve.proofs.Plotted.{dots_more}
use Rattle.curve.proofs.plot.show_dots.Goals as goal

pub loop-dot-init : goal.loop-dot-init
loop-dot-init g c =
    subst (Appends (g.W.Write.contents c.args.output.now) (g.W.Write.contents c.write.new.self)) (sym (append-nil dots_head)) c.in_ok-write.ensures.bytes

pub loop-dot-preserved : goal.loop-dot-preserved
loop-dot-preserved g c =
    dots_more c.args.dots.now c.loop-dot.dot-index _ (g.W.Write.contents c.args.output.now) (g.W.Write.contents c.loop-dot.output)
    (g.W.Write.contents c.show_dot.new.output) c.loop-dot-test.true c.loop-dot.invariant c.in_ok-show_dot.ensures
