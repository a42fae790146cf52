use Rattle.std.proofs.Common.{◌≡◌, ℕ, ◌+◌, ◌<◌, ◌^◌, true, cond, sym, ap, ◌∙◌, subst, ⊎_elim, arith}
use Rattle.std.proofs.lemmas.Bool.{cases_eq}
use Rattle.trellis.specs.Bounds.{ahead}
use Rattle.trellis.specs.Choice.{final}
use Rattle.trellis.proofs.Bounds.{ahead_trans}
use Rattle.trellis.proofs.Survival.{reflexive}
use Rattle.search.specs.Choosing.{may_win, Knows}
use Rattle.search.specs.Stepping.{steps_of}
use Rattle.search.proofs.Leading.{order, challenge_ahead, challenge_leads}
use Rattle.search.proofs.pass.Workspace.settle.Goals as goal
use Rattle.search.proofs.pass.Workspace.settle.Goals.{then-is_left, else-is_left}

pub loop-number-preserved : goal.loop-number-preserved
loop-number-preserved g c =
    let p = c.args.self.now.pass in
    let st = steps_of p.now in
    let m = p.now.trellis.memory in
    let size = p.now.trellis.size in
    let o = order p.now (g.met.K.Kind.lawful p.now.kind.now) in
    let i = c.loop-number.invariant in
    let n = c.loop-number.number in
    let lead = c.loop-number.leader.0 in
    let score = c.loop-number.leader.1 in
    let left = c.args.numbers.now.left in
    let before : ℕ × _ → ℕ → Type 0 = λ a x. ahead st.no_worse a.1 a.0 (final st m size x) x ≡ true in
    let upto : (a : ℕ × _) → before a n → ((x : ℕ) → x < n → before a x) → (x : ℕ) → x < n + 1 → before a x =
    λ a last rest x l. ⊎_elim (λ e. subst (before a) (sym e) last) (λ ne. rest x (omega arith)) (cases_eq x n) in
    let below : n < 2 ^ m = omega (arith, c.states-number-end.ensures, c.loop-number-test.true) in
    elim c.if-is_left.branch [
      | then-is_left w ↦
          let t = w.try_alone-leader.ensures in
          let new = w.try_alone-leader.result in
          let s = final st m size n in
          let el : new.0 ≡ cond (ahead st.no_worse score lead s n) lead n =
          subst (λ q. new.0 ≡ cond (ahead (steps_of q.now).no_worse score lead (final (steps_of q.now) q.now.trellis.memory q.now.trellis.size n) n) lead n) i.0 t.lead in
          let es : new.1 ≡ cond (ahead st.no_worse score lead s n) score s =
          subst (λ q. new.1 ≡ cond (ahead (steps_of q.now).no_worse score lead (final (steps_of q.now) q.now.trellis.memory q.now.trellis.size n) n) score
          (final (steps_of q.now) q.now.trellis.memory q.now.trellis.size n)) i.0 t.score in
          let first = challenge_ahead st o score lead s n new.1 new.0 el es in
          let known : Knows p.now new.0 new.1 left = challenge_leads st o score lead s n m size (may_win left) new.1 new.0 below (reflexive st o s) el es i.1 in (
            ap (λ x. x.pass) w.self-is ∙ t.pass ∙ i.0,
            subst (λ a. Knows p.now a.0 a.1 left) (sym w.leader-is) known,
            subst (λ a. (x : ℕ) → x < n + 1 → before a x) (sym w.leader-is)
                (upto new first.0 (λ x l. ahead_trans st o new.1 score (final st m size x) new.0 lead x first.1 (i.2 x l))),
            omega (arith, ap (λ x. x.trips) w.self-is, t.trips, i.3),
          )
      | else-is_left w ↦
          let gone = sym c.is_left.ensures ∙ w.if-is_left.false in (
            ap (λ x. x.pass) w.self-is ∙ i.0,
            subst (λ a. Knows p.now a.0 a.1 left) (sym w.leader-is) i.1,
            subst (λ a. (x : ℕ) → x < n + 1 → before a x) (sym w.leader-is) (upto c.loop-number.leader (i.1.before n below gone) i.2),
            omega (arith, ap (λ x. x.trips) w.self-is, i.3),
          )
    ]
