use Rattle.std.proofs.Common.{subst}
use Rattle.std.specs.Io.KnownBytes.{Appends}
use Rattle.comparison.specs.Report.{report}
use Rattle.chain.proofs.obeying.show_count.Goals as goal

pub returns-clause-counted : goal.returns-clause-counted
returns-clause-counted g c xs ys e f = subst (λ x. Appends (g.W.Write.contents c.args.output.now) (g.W.Write.contents c.write.new.self) (report x)) (c.in_ok-comparison.ensures xs ys e f) c.in_ok-write.ensures.bytes

pub returns-clause-some : goal.returns-clause-some
returns-clause-some g c = (c.in_ok-comparison.comparison, c.in_ok-write.ensures.bytes)
