use Rattle.std.proofs.Common.{[], true, false, Ok, subst, sym, refl, ap, ◌∙◌}
use Rattle.std.specs.Prelude.{◌==◌}
use Rattle.std.proofs.lemmas.Bool.{true≢false}
use Rattle.std.proofs.lemmas.Result.{err_from_is_err_and}
use Rattle.laboratory.specs.Counting.{Stepped, ReadRefused}
use Rattle.laboratory.proofs.Lines.{advanced_end}
use Rattle.laboratory.proofs.counting.Blocks.advance.Goals as goal

pub loop-self-init : goal.loop-self-init
loop-self-init g c = record {
  known = λ xs e. ([], xs, record { holds = c.begin.ensures.start; rest = e }, refl);
  read = λ whole h k. record {
    text = h.text;
    rest = h.rest;
    left = h.left;
    cut = h.cut;
    behind = λ e.
        let b = h.behind e in
        record { place = record { comment = c.begin.ensures.clear ∙ sym (k e) ∙ b.place.comment }; bits = b.bits; said = b.said; line = c.begin.ensures.line ∙ b.line };
  };
  name = c.begin.ensures.name;
}

pub returns-then-branch-clause-known : goal.returns-then-branch-clause-known
returns-then-branch-clause-known g c = λ xs e.
    let i = c.loop-self.invariant.known xs e in
    let s : Stepped g.R.Read.remaining i.0 i.1 c.step.new.self (Ok true) =
    subst (Stepped g.R.Read.remaining i.0 i.1 c.step.new.self) (c.in_ok-step.was ∙ ap Ok c.if-branch.true) (c.step.ensures.known i.0 i.1 i.2) in
    (s.0, s.1, i.3 ∙ s.2)

pub loop-self-smaller : goal.loop-self-smaller
loop-self-smaller g c = c.in_ok-step.ensures.fewer

pub loop-self-preserved : goal.loop-self-preserved
loop-self-preserved g c = record {
  known = λ xs e.
      let i = c.loop-self.invariant.known xs e in
      let s : Stepped g.R.Read.remaining i.0 i.1 c.step.new.self (Ok false) =
      subst (Stepped g.R.Read.remaining i.0 i.1 c.step.new.self) (c.in_ok-step.was ∙ ap Ok c.if-branch.false) (c.step.ensures.known i.0 i.1 i.2) in
      (s.0, s.1, s.2, i.3 ∙ s.3);
  read = λ whole h k. (c.in_ok-step.ensures.read whole (c.loop-self.invariant.read whole h k)).0;
  name = c.step.ensures.name ∙ c.loop-self.invariant.name;
}

pub returns-then-branch-clause-read : goal.returns-then-branch-clause-read
returns-then-branch-clause-read g c = λ whole h k.
    let q = c.in_ok-step.ensures.read whole (c.loop-self.invariant.read whole h k) in
    (q.0, q.1 c.if-branch.true)

pub returns-clause-read : goal.returns-clause-read
returns-clause-read g c = λ whole h k. (c.loop-self.invariant.read whole h k, λ e. absurd (true≢false (sym c.loop-self-test.false ∙ e)))

pub returns-in_err-step-clause-read : goal.returns-in_err-step-clause-read
returns-in_err-step-clause-read g c = λ whole h k.
    let refused = c.in_err-step.ensures.read whole (c.loop-self.invariant.read whole h k) in
    let p = err_from_is_err_and c.from_residual.result c.from_residual.ensures.1 in
    rw (p.1, p.2) (subst (λ n. ReadRefused n whole c.in_err-step.field-0.0) c.loop-self.invariant.name refused)

pub returns-clause-known : goal.returns-clause-known
returns-clause-known g c = λ xs e.
    let i = c.loop-self.invariant.known xs e in
    advanced_end g.R.Read.remaining c.loop-self.self i.0 xs i.1 c.is_empty.result i.2 c.loop-self-test.false i.3
    (c.is_empty.ensures ∙ ap (λ n. n == 0) (c.loop-self.self.line.bits.ok.0))
