use Rattle.std.proofs.Common.{◌≡◌, ◌^◌, ◌<◌, true, sym, ap, ◌∙◌, subst, arith}
use Rattle.std.proofs.lemmas.Bool.{eqb-true}
use Rattle.trellis.specs.Choice.{origin, final}
use Rattle.trellis.specs.Marks.{marked}
use Rattle.trellis.specs.Survivors.{prefix, survivor}
use Rattle.trellis.proofs.Survival.{reflexive}
use Rattle.search.specs.Choosing.{Closed}
use Rattle.search.specs.Searching.{column}
use Rattle.search.specs.Stepping.{scale_of, steps_of}
use Rattle.search.proofs.Leading.{Swept, order, all_left, known_closed, round_leads}
use Rattle.search.proofs.pass.Workspace.first_leader.Goals as goal

pub returns-then-comes_round-clause-knows : goal.returns-then-comes_round-clause-knows
returns-then-comes_round-clause-knows g c =
    let p = c.args.self.now.pass in
    let law = g.met.K.Kind.lawful p.now.kind.now in
    let b = c.sweep.ensures in
    let new = c.sweep.new.self in
    let before = new.before.now.scores.now in
    let end = c.best_end-end.result in
    let swept : Swept p.now 0 0 before new.marks.now = record { scored = b.scores; kept = b.marks } in
    let low = subst (λ q. end < 2 ^ q.now.trellis.memory) b.pass c.best_end-end.ensures in
    let closed = subst (λ q. origin q.now.trellis.memory (marked q.now.trellis.memory new.marks.now) q.now.trellis.size end ≡ end) b.pass
    (eqb-true _ _ (sym c.comes_round.ensures ∙ c.if-comes_round.true)) in
    let score : c.survivor-score.result ≡ column (scale_of p.now) before end = c.survivor-score.ensures ∙ ap (λ q. column (scale_of q.now) before end) b.pass in
    let own = subst (λ s. (steps_of p.now).no_worse (final (steps_of p.now) p.now.trellis.memory p.now.trellis.size end) s ≡ true) (sym score)
    (round_leads p.now law 0 0 end before new.marks.now low swept closed) in
    known_closed p.now law 0 0 end c.survivor-score.result before new.marks.now c.args.numbers.now.left _ (omega arith) swept
    (subst (λ q. Closed q.now 0 0 end c.survivor-score.result before c.args.numbers.now.left c.sort_out.new.numbers.left) b.pass c.sort_out.ensures)
    (all_left p.now end c.survivor-score.result c.args.numbers.now.left c.requires low own)

pub returns-else-comes_round-clause-knows : goal.returns-else-comes_round-clause-knows
returns-else-comes_round-clause-knows g c =
    let p = c.args.self.now.pass in
    let law = g.met.K.Kind.lawful p.now.kind.now in
    let st = steps_of p.now in
    let m = p.now.trellis.memory in
    let size = p.now.trellis.size in
    let first = c.sweep.ensures.pass in
    let b = c.sweep-else-comes_round.ensures in
    let before = c.sweep-else-comes_round.new.self.before.now.scores.now in
    let end = c.best_end-end.result in
    let low = subst (λ q. end < 2 ^ q.now.trellis.memory) first c.best_end-end.ensures in
    let alone : column (scale_of p.now) before end ≡ final st m size end =
    subst (λ q. column (scale_of q.now) before end ≡ final (steps_of q.now) q.now.trellis.memory q.now.trellis.size end) first
    (b.scores end c.best_end-end.ensures ∙ ap (λ h. survivor (steps_of c.sweep.new.self.pass.now) c.sweep.new.self.pass.now.trellis.memory
    (prefix c.sweep.new.self.pass.now.trellis.memory h end) c.sweep.new.self.pass.now.trellis.size end) c.memory.ensures) in
    let score : c.survivor.result ≡ final st m size end = c.survivor.ensures ∙ ap (λ q. column (scale_of q.now) before end) (b.pass ∙ first) ∙ alone in
    all_left p.now end c.survivor.result c.args.numbers.now.left c.requires low
    (subst (λ s. st.no_worse (final st m size end) s ≡ true) (sym score) (reflexive st (order p.now law) (final st m size end)))
