use Rattle.std.proofs.Common.{◌≡◌, ◌-◌, ◌^◌, [], true, false, Ok, subst, sym, ap, ◌∙◌, arith, rules}
use Rattle.bits_text.specs.Blocks.{blocks}
use Rattle.comparison.specs.Comparing.{with_pair, compared}
use Rattle.std.proofs.lemmas.Result.{err_from_is_err_and}
use Rattle.laboratory.specs.Counting.{Advanced, ReadRefused}
use Rattle.laboratory.proofs.Located.{round_both, round_first, round_second, sent_refused, shown_refused}
use Rattle.laboratory.proofs.counting.count.Goals as goal
use Rattle.laboratory.proofs.counting.count.Goals.{in-true-true, in-true-false, in-false-true}

pub loop-round-init : goal.loop-round-init
loop-round-init g c = record {
  known = λ xs ys e f.
      (xs, ys, c.new-sent.ensures.left ∙ e, c.new-shown.ensures.left ∙ f, ap (λ n. compared n (blocks xs) (blocks ys)) (sym c.none-comparison.ensures), omega arith);
  sent = λ xs e. (c.new-sent.ensures.read xs e, c.new-sent.ensures.clear);
  shown = λ ys f. (c.new-shown.ensures.read ys f, c.new-shown.ensures.clear);
  first = c.new-sent.ensures.name;
  second = c.new-shown.ensures.name;
}

pub returns-in-false-false : goal.returns-in-false-false
returns-in-false-false g c = λ xs ys e f.
    let i = c.loop-round.invariant.known xs ys e f in
    let a : Advanced g.R.Read.remaining i.0 c.advance.new.self (Ok false) =
    subst (Advanced g.R.Read.remaining i.0 c.advance.new.self) (c.in_ok-advance.was ∙ ap Ok c.in-false-false.is-0) (c.advance.ensures.known i.0 i.2) in
    let b : Advanced g.S.Read.remaining i.1 c.advance-in-loop-round.new.self (Ok false) =
    subst (Advanced g.S.Read.remaining i.1 c.advance-in-loop-round.new.self) (c.in_ok-advance-2.was ∙ ap Ok c.in-false-false.is-1) (c.advance-in-loop-round.ensures.known i.1 i.3) in
    sym (i.4 ∙ (λ k. compared c.loop-round.comparison (a.1 k) (b.1 k)))

pub loop-round-preserved : goal.loop-round-preserved
loop-round-preserved g c = record {
  known = λ xs ys e f.
      let i = c.loop-round.invariant.known xs ys e f in
      elim c.if-this.branch [
        | in-true-true w ↦
            (let a : Advanced g.R.Read.remaining i.0 c.advance.new.self (Ok true) =
            subst (Advanced g.R.Read.remaining i.0 c.advance.new.self) (c.in_ok-advance.was ∙ ap Ok w.in-true-true.is-0) (c.advance.ensures.known i.0 i.2) in
            let b : Advanced g.S.Read.remaining i.1 c.advance-in-loop-round.new.self (Ok true) =
            subst (Advanced g.S.Read.remaining i.1 c.advance-in-loop-round.new.self) (c.in_ok-advance-2.was ∙ ap Ok w.in-true-true.is-1) (c.advance-in-loop-round.ensures.known i.1 i.3) in
            let now = w.comparison-is ∙ w.pair.ensures ∙ (λ k. with_pair c.loop-round.comparison (w.block.ensures k) (w.block-in-true-true.ensures k)) in (
              a.0,
              b.0,
              a.1,
              b.1,
              i.4 ∙ (λ k. compared c.loop-round.comparison (a.2 k) (b.2 k)) ∙ ap (λ n. compared n (blocks a.0) (blocks b.0)) (sym now),
              round_both c.loop-round._round (blocks i.0) (blocks i.1) (blocks a.0) (blocks b.0) _ _ _ a.2 b.2 i.5,
            ))
        | in-true-false w ↦
            (let a : Advanced g.R.Read.remaining i.0 c.advance.new.self (Ok true) =
            subst (Advanced g.R.Read.remaining i.0 c.advance.new.self) (c.in_ok-advance.was ∙ ap Ok w.in-true-false.is-0) (c.advance.ensures.known i.0 i.2) in
            let b : Advanced g.S.Read.remaining i.1 c.advance-in-loop-round.new.self (Ok false) =
            subst (Advanced g.S.Read.remaining i.1 c.advance-in-loop-round.new.self) (c.in_ok-advance-2.was ∙ ap Ok w.in-true-false.is-1) (c.advance-in-loop-round.ensures.known i.1 i.3) in
            let now = w.comparison-is ∙ w.sent_alone.ensures in (
              a.0,
              [],
              a.1,
              b.0,
              i.4 ∙ (λ k. compared c.loop-round.comparison (a.2 k) (b.1 k)) ∙ ap (λ n. compared n (blocks a.0) []) (sym now),
              round_first c.loop-round._round (blocks i.0) (blocks i.1) (blocks a.0) _ _ a.2 b.1 i.5,
            ))
        | in-false-true w ↦
            (let a : Advanced g.R.Read.remaining i.0 c.advance.new.self (Ok false) =
            subst (Advanced g.R.Read.remaining i.0 c.advance.new.self) (c.in_ok-advance.was ∙ ap Ok w.in-false-true.is-0) (c.advance.ensures.known i.0 i.2) in
            let b : Advanced g.S.Read.remaining i.1 c.advance-in-loop-round.new.self (Ok true) =
            subst (Advanced g.S.Read.remaining i.1 c.advance-in-loop-round.new.self) (c.in_ok-advance-2.was ∙ ap Ok w.in-false-true.is-1) (c.advance-in-loop-round.ensures.known i.1 i.3) in
            let now = w.comparison-is ∙ w.shown_alone.ensures in (
              [],
              b.0,
              a.0,
              b.1,
              i.4 ∙ (λ k. compared c.loop-round.comparison (a.1 k) (b.2 k)) ∙ ap (λ n. compared n [] (blocks b.0)) (sym now),
              round_second c.loop-round._round (blocks i.0) (blocks i.1) (blocks b.0) _ _ a.1 b.2 i.5,
            ))
      ];
  sent = λ xs e. let i = c.loop-round.invariant.sent xs e in c.in_ok-advance.ensures.read xs i.0 i.1;
  shown = λ ys f. let i = c.loop-round.invariant.shown ys f in c.in_ok-advance-2.ensures.read ys i.0 i.1;
  first = c.advance.ensures.name ∙ c.loop-round.invariant.first;
  second = c.advance-in-loop-round.ensures.name ∙ c.loop-round.invariant.second;
}

pub returns-in_err-advance : goal.returns-in_err-advance
returns-in_err-advance g c = λ xs ys e f.
    let i = c.loop-round.invariant.sent xs e in
    let p = err_from_is_err_and c.from_residual.result c.from_residual.ensures.1 in
    rw (p.1, p.2) (sent_refused xs ys c.in_err-advance.field-0.0 (subst (λ n. ReadRefused n xs c.in_err-advance.field-0.0) c.loop-round.invariant.first (c.in_err-advance.ensures.read xs i.0 i.1)))

pub returns-in_err-advance-2 : goal.returns-in_err-advance-2
returns-in_err-advance-2 g c = λ xs ys e f.
    let i = c.loop-round.invariant.shown ys f in
    let p = err_from_is_err_and c.from_residual-in_err-advance-2.result c.from_residual-in_err-advance-2.ensures.1 in
    rw (p.1, p.2)
    (shown_refused xs ys c.in_err-advance-2.field-0.0
    (subst (λ n. ReadRefused n ys c.in_err-advance-2.field-0.0) c.loop-round.invariant.second (c.in_err-advance-2.ensures.read ys i.0 i.1)))

pub returns : goal.returns
returns g c = λ xs ys e f.
    let i = c.loop-round.invariant.known xs ys e f in
    let done : c.loop-round._round ≡ 2 ^ 64 - 1 = search rules in
    omega (arith, done, i.5)
