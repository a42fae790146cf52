use Rattle.search.specs.Stepping.{scale_of, mark_of, next_of}
use Rattle.search.proofs.Eights.{Done}
use Rattle.search.proofs.step.Step.eight.Given as goal

abbrev pub invariant-loop-i : goal.invariant-loop-i
invariant-loop-i g l =
    Done
    (mark_of l.self l.old.scores.now)
    (next_of l.self l.old.scores.now)
    (scale_of l.self.pass.now).start l.initial.new.scores.now l.group l.i l.byte l.new.scores.now
