use Rattle.std.proofs.Common.{◌≡◌, ℕ, ◌^◌, ◌<◌, true, ◌∙◌, subst, arith}
use Rattle.trellis.specs.Bounds.{ahead}
use Rattle.trellis.specs.Choice.{final}
use Rattle.trellis.proofs.Bounds.{leader_wins}
use Rattle.search.specs.Choosing.{may_win, Knows}
use Rattle.search.specs.Stepping.{steps_of}
use Rattle.search.proofs.Leading.{order}
use Rattle.search.proofs.pass.Workspace.winner.Goals as goal

pub returns-clause-number : goal.returns-clause-number
returns-clause-number g c =
    let p = c.args.self.now.pass in
    let q = c.narrow-lead.ensures.pass ∙ c.first_leader-lead.ensures.pass in
    let lead = c.settle.result.0 in
    let score = c.settle.result.1 in
    let left = c.narrow-lead.new.numbers.left in
    leader_wins (steps_of p.now) (order p.now (g.met.K.Kind.lawful p.now.kind.now)) p.now.trellis.memory p.now.trellis.size lead score (may_win left)
    (subst (λ r. Knows r.now lead score left) q c.settle.ensures.knows)
    (subst (λ r. (x : ℕ) → x < 2 ^ r.now.trellis.memory → ahead (steps_of r.now).no_worse score lead (final (steps_of r.now) r.now.trellis.memory r.now.trellis.size x) x ≡ true) q c.settle.ensures.settled)
