use Rattle.std.proofs.Common.{◌≡◌, cond, ap, ◌∙◌, arith}
use Rattle.trellis.specs.Bounds.{ahead}
use Rattle.trellis.specs.Choice.{final}
use Rattle.trellis.specs.Survivors.{prefix, survivor}
use Rattle.search.specs.Searching.{column}
use Rattle.search.specs.Stepping.{scale_of, steps_of}
use Rattle.search.proofs.pass.Workspace.try_alone.Goals as goal

pub returns : goal.returns
returns g c =
    let p = c.args.self.now.pass in
    let st = steps_of p.now in
    let m = p.now.trellis.memory in
    let size = p.now.trellis.size in
    let n = c.args.number in
    let b = c.sweep.ensures in
    let before = c.sweep.new.self.before.now.scores.now in
    let own : c.survivor.result ≡ final st m size n =
    c.survivor.ensures ∙ ap (λ q. column (scale_of q.now) before n) b.pass ∙ b.scores n c.requires ∙ ap (λ h. survivor st m (prefix m h n) size n) c.memory.ensures in
    let e = c.challenge.ensures in
    record {
      pass = b.pass;
      lead = e.lead ∙ ap (λ q. cond (ahead (scale_of q.now).no_worse c.args.score c.args.lead c.survivor.result n) c.args.lead n) b.pass
          ∙ ap (λ s. cond (ahead st.no_worse c.args.score c.args.lead s n) c.args.lead n) own;
      score = e.score ∙ ap (λ q. cond (ahead (scale_of q.now).no_worse c.args.score c.args.lead c.survivor.result n) c.args.score c.survivor.result) b.pass
          ∙ ap (λ s. cond (ahead st.no_worse c.args.score c.args.lead s n) c.args.score s) own;
      trips = omega (arith, b.trips);
    }
