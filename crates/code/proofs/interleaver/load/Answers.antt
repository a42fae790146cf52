use Rattle.std.proofs.Common.{◌≡◌, ◌+◌, ◌*◌, ◌/◌, ◌≤◌, false, ◌++◌, length, drop, replicate, sym, ap, ◌∙◌, add-mul, one-mul, zero-add, length-take-le, arith, rules}
use Rattle.std.proofs.lemmas.List.{length-replicate}
use Rattle.plan.specs.Plans.{plan_scheme}
use Rattle.plan.specs.Scheme.{sent_length}
use Rattle.code.specs.Numbers.{read}
use Rattle.code.specs.Sending.{interleaved, loads}
use Rattle.code.proofs.Accepted.{facts_of}
use Rattle.code.proofs.Loading.{loads_front, loads_on}
use Rattle.code.proofs.interleaver.load.Goals as goal

pub loop-number-preserved : goal.loop-number-preserved
loop-number-preserved c =
    let s = plan_scheme c.args.plan.now in
    let w = read c.args.word.now in
    let start = c.fill.new.self ++ drop c.sent_length.result c.args.array.now in
    let m = length s.entries in
    let done = c.loop-number.number * m in
    let next : done + m ≡ (c.loop-number.number + 1) * m = omega (arith, add-mul c.loop-number.number 1 m, one-mul m) in
    c.load.ensures
    ∙ ap (λ l. loads s w l done m) c.loop-number.invariant
    ∙ ap (λ n. loads s w (loads s w start 0 done) n m) (sym (zero-add done))
    ∙ loads_on s (facts_of c.args.plan.now) w start 0 done m
    ∙ ap (loads s w start 0) next

pub returns-clause-after : goal.returns-clause-after
unfolding interleaved
returns-clause-after c =
    let s = plan_scheme c.args.plan.now in
    let w = read c.args.word.now in
    let size = sent_length s in
    let array = c.args.array.now in
    let n = c.sent_length.result in
    let start = c.fill.new.self ++ drop n array in
    let all : c.loop-number.number ≡ s.block / s.period = search rules in
    let long : n ≤ length array = search rules in
    let zeros : c.fill.new.self ≡ replicate n false = c.fill.ensures.after (λ y e. e) ∙ ap (λ m. replicate m false) (length-take-le n array long) in
    let cleared : start ≡ replicate size false ++ drop size array =
    ap (λ l. l ++ drop n array) zeros ∙ ap (λ m. replicate m false ++ drop m array) c.sent_length.ensures in
    c.loop-number.invariant
    ∙ (λ i. loads s w (cleared i) 0 (all i * length s.entries))
    ∙ loads_front s (facts_of c.args.plan.now) w (replicate size false) (drop size array) 0 size (length-replicate size false)
