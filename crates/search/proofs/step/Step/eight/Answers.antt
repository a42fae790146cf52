use Rattle.std.proofs.Common.{◌≡◌, ◌+◌, ◌-◌, ◌*◌, ◌<◌, true, false, cond, not, unwrap_or, get_or, refl, ap, ◌∙◌, arith, rules}
use Rattle.code.proofs.Blocks.{digit_le}
use Rattle.trellis.proofs.Bits.{byte_digit}
use Rattle.search.specs.Stepping.{scale_of, way_of, mark_of}
use Rattle.search.proofs.Eights.{done_more, done_marks, done_scores, done_fits, chosen_way}
use Rattle.search.proofs.Parities.{same_item}
use Rattle.search.proofs.step.Step.eight.Goals as goal

pub overflow_mul-byte : goal.overflow_mul-byte
overflow_mul-byte g c = let h = done_fits _ _ _ _ _ c.loop-i.i c.loop-i.byte _ c.loop-i-test.true c.loop-i.invariant in omega arith

pub overflow_add-byte : goal.overflow_add-byte
overflow_add-byte g c =
    let h = done_fits _ _ _ _ _ c.loop-i.i c.loop-i.byte _ c.loop-i-test.true c.loop-i.invariant in
    let e = c.from.ensures ∙ byte_digit c.survivor-mark.result.0 in
    omega (arith, digit_le c.survivor-mark.result.0)

pub loop-i-preserved : goal.loop-i-preserved
loop-i-preserved g c =
    let step = c.args.self.now in
    let scores = c.args.old.now.scores.now in
    let i = c.loop-i.i - 1 in
    let s = 8 * c.args.group + i in
    let below : i < 8 = omega (arith, c.loop-i-test.true, c.loop-i.auto.i) in
    let start = (scale_of step.pass.now).start in
    let zero : get_or c.ways-zero.result i c.index-zero-i.result ≡ way_of step scores s false =
    same_item c.ways-zero.result i i 8 _ start refl below (search rules) ∙ c.ways-zero.ensures i below in
    let one : get_or c.ways-one.result i c.index-one-i.result ≡ way_of step scores s true =
    same_item c.ways-one.result i i 8 _ start refl below (search rules) ∙ c.ways-one.ensures i below in
    let survives = c.survivor-mark.ensures in
    let mark : c.survivor-mark.result.0 ≡ mark_of step scores s =
    survives.mark ∙ ap (λ x. unwrap_or step.forced (not ((scale_of step.pass.now).no_worse x (get_or c.ways-one.result i c.index-one-i.result)))) zero
    ∙ ap (λ x. unwrap_or step.forced (not ((scale_of step.pass.now).no_worse (way_of step scores s false) x))) one in
    let score = survives.score ∙ ap (λ x. cond c.survivor-mark.result.0 x (get_or c.ways-zero.result i c.index-zero-i.result)) one
    ∙ ap (cond c.survivor-mark.result.0 (way_of step scores s true)) zero ∙ chosen_way (way_of step scores s) c.survivor-mark.result.0 ∙ ap (way_of step scores s) mark in
    done_more _ _ _ _ _ c.loop-i.i c.loop-i.byte c.loop-i.new.scores.now c.survivor-mark.result.0 c.survivor-mark.result.1 _ _
    c.loop-i-test.true c.loop-i.auto.i (omega arith) mark score
    (ap (λ n. 2 * c.loop-i.byte + n) c.from.ensures) c.put.ensures c.loop-i.invariant

pub returns : goal.returns
returns g c =
    let e : c.loop-i.i ≡ 0 = omega arith in
    let d = c.loop-i.invariant in
    record { marks = done_marks _ _ _ _ _ _ _ _ e d; scores = done_scores _ _ _ _ _ _ _ _ e d; before = d.below; len = d.len }
