use Rattle.std.proofs.Common.{◌≡◌, ◌+◌, ◌++◌, [], ◌∷◌, length, pos, ◌+ℤ◌, ◌≤ℤ◌, false, sym, ap, subst, ◌∙◌, length-append, to_z, of_z, w8, arith, rules}
use Rattle.std.specs.Int.Signed.{le_z, lt_z}
use Rattle.std.proofs.Math.IntN.{+ℤ_idr}
use Rattle.curve.specs.Dots.{IsCurve}
use Rattle.curve.proofs.Counted.{EachDot, each_more, next_ratio, last_is, no_more}
use Rattle.curve.proofs.counting.dots_of.Goals as goal
use Rattle.curve.proofs.counting.dots_of.Goals.{else-loop-decibels-test, then-loop-decibels-test+in_ok-dot+in_ok-eprintln+in_ok-push+else-decibels-counter-decibels-end}

pub loop-decibels-init : goal.loop-decibels-init
loop-decibels-init c =
    let run = c.args.run in
    let empty : length c.new-dots.result.items ≡ 0 = ap length c.new-dots.ensures.items in
    let same : to_z w8 (of_z w8 run.from) ≡ run.from = search rules in
    let none : EachDot run [] = λ i d h. absurd (omega (arith, h)) in
    record {
      ratio = same ∙ sym (+ℤ_idr run.from) ∙ ap (λ n. run.from +ℤ pos n) (sym empty);
      within = λ h. absurd (omega (arith, h, empty));
      each = subst (EachDot run) (sym c.new-dots.ensures.items) none;
    }

pub loop-decibels-preserved : goal.loop-decibels-preserved
loop-decibels-preserved c =
    let l = c.loop-decibels.invariant in
    let run = c.args.run in
    let dots = c.loop-decibels.dots.items in
    let dot = c.in_ok-dot.dot in
    let k = length dots in
    let items : c.push.new.self.items ≡ dots ++ dot ∷ [] = c.in_ok-push.ensures.items in
    let long : length c.push.new.self.items ≡ k + 1 = ap length items ∙ length-append dots (dot ∷ []) in
    let more : to_z w8 (of_z w8 (to_z w8 c.loop-decibels.decibels-counter-bits +ℤ pos 1)) ≡ to_z w8 c.loop-decibels.decibels-counter-bits +ℤ pos 1 = search rules in
    record {
      ratio = more ∙ ap (λ z. z +ℤ pos 1) l.ratio ∙ next_ratio run.from k ∙ ap (λ n. run.from +ℤ pos n) (sym long);
      within = λ h. search rules;
      each = subst (EachDot run) (sym items) (each_more run dots _ dot l.ratio c.in_ok-dot.ensures l.each);
    }

pub returns : goal.returns
returns c =
    let l = c.loop-decibels.invariant in
    let run = c.args.run in
    elim c.loop-decibels-test.branch [
      | else-loop-decibels-test w ↦
          let same : to_z w8 (of_z w8 run.to) ≡ run.to = search rules in
          let past : le_z (to_z w8 c.loop-decibels.decibels-counter-bits) run.to ≡ false =
          ap (le_z (to_z w8 c.loop-decibels.decibels-counter-bits)) (sym same) ∙ w.loop-decibels-test.false in
          let none : run.from ≤ℤ run.to → ⊥ = no_more run.from run.to (to_z w8 c.loop-decibels.decibels-counter-bits) (length c.loop-decibels.dots.items) l.ratio l.within past in
          subst (IsCurve run) (sym (ap (λ v. v.items) w.dots-is)) (record { last = λ h. absurd (none h); each = l.each })
      | then-loop-decibels-test+in_ok-dot+in_ok-eprintln+in_ok-push+else-decibels-counter-decibels-end w ↦
          let dots = c.loop-decibels.dots.items in
          let dot = w.in_ok-dot.dot in
          let items : c.loop-decibels-test.dots.items ≡ dots ++ dot ∷ [] = ap (λ v. v.items) w.dots-is ∙ w.in_ok-push.ensures.items in
          let long : length c.loop-decibels-test.dots.items ≡ length dots + 1 = ap length items ∙ length-append dots (dot ∷ []) in
          let ratio = to_z w8 c.loop-decibels.decibels-counter-bits in
          let same : run.to ≡ to_z w8 (of_z w8 run.to) = search rules in
          let end : ratio ≡ run.to = last_is ratio run.to (ap (le_z ratio) same ∙ w.loop-decibels-test.true) (ap (lt_z ratio) same ∙ w.if-decibels-counter-decibels-end.false) in
          record {
            last = λ h. ap (λ n. run.from +ℤ pos n) long ∙ sym (next_ratio run.from (length dots)) ∙ ap (λ z. z +ℤ pos 1) (sym l.ratio ∙ end);
            each = subst (EachDot run) (sym items) (each_more run dots _ dot l.ratio w.in_ok-dot.ensures l.each);
          }
    ]
