use Rattle.std.proofs.Common.{◌≡◌, ℕ, ◌^◌, ◌<◌, ap, ◌∙◌, subst, arith}
use Rattle.trellis.specs.Choice.{final}
use Rattle.trellis.specs.Marks.{marked}
use Rattle.trellis.specs.Survivors.{prefix, survivor, mark}
use Rattle.search.specs.Searching.{column}
use Rattle.search.specs.Stepping.{scale_of, steps_of}
use Rattle.search.proofs.Finding.{shown_is}
use Rattle.search.proofs.Leading.{Swept}
use Rattle.search.proofs.pass.Workspace.pick.Goals as goal

pub returns : goal.returns
returns g c =
    let p = c.args.self.now.pass in
    let t = p.now.trellis in
    let w = c.winner-start.ensures in
    let lead = c.winner-start.result in
    let b = c.sweep.ensures in
    let before = c.sweep.new.self.before.now.scores.now in
    let marks = c.sweep.new.self.marks.now in
    let swept : Swept p.now t.memory lead before marks =
    subst (λ h. Swept p.now h lead before marks) c.memory.ensures
    (subst (λ q. Swept q.now c.memory.result lead before marks) w.pass (record { scored = b.scores; kept = b.marks })) in
    record {
      block = shown_is (scale_of p.now) _ _ _ t.memory t.size lead _ _ p.now.memory_fits p.now.size_fits w.below w.number swept.kept c.trace_back.ensures.after;
      score = c.survivor.ensures ∙ ap (λ q. column (scale_of q.now) before lead) (b.pass ∙ w.pass) ∙ swept.scored lead w.below
          ∙ ap (final (steps_of p.now) t.memory t.size) w.number;
      trips = omega (arith, w.trips, b.trips);
    }
