use Rattle.std.proofs.Common.{◌≡◌, ◌^◌, ◌<◌, cond, subst}
use Rattle.search.specs.Choosing.{Closed, takes_lead}
use Rattle.search.specs.Searching.{column}
use Rattle.search.specs.Stepping.{scale_of}
use Rattle.search.proofs.Leading.{Swept, known_closed, known_after}
use Rattle.search.proofs.pass.Workspace.look_closer.Goals as goal

pub returns-clause-knows : goal.returns-clause-knows
returns-clause-knows g c =
    let p = c.args.self.now.pass in
    let law = g.met.K.Kind.lawful p.now.kind.now in
    let b = c.sweep.ensures in
    let marks = c.sweep.new.self.marks.now in
    let before = c.sweep.new.self.before.now.scores.now in
    let held = c.bits_to_hold-held.result in
    let end = c.best_end.result in
    let lead = c.leader_after-lead.result.0 in
    let score = c.leader_after-lead.result.1 in
    let left = c.args.numbers.now.left in
    let swept : Swept p.now held c.args.number before marks = record { scored = b.scores; kept = b.marks } in
    known_closed p.now law held c.args.number lead score before marks left _ c.bits_to_hold-held.ensures swept
    (subst (λ q. Closed q.now held c.args.number lead score before left c.sort_out.new.numbers.left) b.pass c.sort_out.ensures)
    (known_after p.now law held c.args.number end c.args.lead lead c.args.score score before marks left
    (subst (λ q. end < 2 ^ q.now.trellis.memory) b.pass c.best_end.ensures) swept
    (subst (λ q. lead ≡ cond (takes_lead q.now end c.args.lead c.args.score before marks) end c.args.lead) b.pass c.leader_after-lead.ensures.lead)
    (subst (λ q. score ≡ cond (takes_lead q.now end c.args.lead c.args.score before marks) (column (scale_of q.now) before end) c.args.score) b.pass c.leader_after-lead.ensures.score)
    c.requires.knows)
