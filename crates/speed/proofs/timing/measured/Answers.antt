use Rattle.std.proofs.Common.{◌≡◌, ap, subst, sym, inl, inr, ◌∙◌, rules, arith}
use Rattle.speed.specs.Tables.{Begun, next, none, is_enough, no_looks, Looks}
use Rattle.speed.proofs.Tabled.{not_yet, looks_more}
use Rattle.speed.proofs.timing.measured.Goals as goal
use Rattle.speed.proofs.timing.measured.Goals.{else-loop-test, then-loop-test+in_ok-drawn+in_ok-look+then-taken}

pub loop-init : goal.loop-init
loop-init c =
    let e = c.default-taken.ensures in
    let empty : c.default-taken.result ≡ no_looks = λ i. record { looks = e.0 i; trips = e.1.0 i; seconds = e.1.1 i } in
    record { count = e.0; begun = subst Begun (sym empty) none; more = ap is_enough empty ∙ not_yet }

pub loop-preserved : goal.loop-preserved
loop-preserved c =
    let l = c.loop.invariant in
    let e = c.add.ensures in
    record {
      count = ap (λ t. t.looks) e ∙ looks_more c.loop.taken c.loop.counter c.in_ok-look.look.trips c.as_secs_f64.result l.count (omega (arith, c.loop-test.true));
      begun = subst Begun (sym e) (next c.in_ok-look.look.trips c.as_secs_f64.result l.begun (omega (arith, l.count, c.loop-test.true)) l.more);
      more = c.if-taken.false;
    }

pub returns : goal.returns
returns c =
    let l = c.loop.invariant in
    elim c.loop-test.branch [
      | else-loop-test w ↦
          let all : c.loop.taken.looks ≡ 500 = l.count ∙ search rules in
          subst Looks (sym w.taken-is) (l.begun, inl all)
      | then-loop-test+in_ok-drawn+in_ok-look+then-taken w ↦
          let e = w.add.ensures in
          let begun = subst Begun (sym e) (next w.in_ok-look.look.trips w.as_secs_f64.result l.begun (omega (arith, l.count, w.loop-test.true)) l.more) in
          subst Looks (sym w.taken-is) (begun, inr w.if-taken.true)
    ]
