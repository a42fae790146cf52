use Rattle.search.specs.Stepping.{scale_of, mark_of, next_of}
use Rattle.search.proofs.Rows.{Filled}
use Rattle.search.proofs.step.Step.run.Given as goal

abbrev pub invariant-loop-group : goal.invariant-loop-group
invariant-loop-group g l =
    Filled
    (mark_of l.self l.old.scores.now)
    (next_of l.self l.old.scores.now)
    (scale_of l.self.pass.now).start l.self.pass.now.trellis.memory l.t l.initial.new.scores.now l.initial.marks l.group l.new.scores.now l.marks
