use Rattle.std.proofs.Common.{◌≡◌, ◌*◌, ◌-◌, length, ap, ◌∙◌, arith}
use borrow.Rule.Slice.PartMut.{mid_of, mid_len}
use Rattle.plan.specs.Plans.{plan_scheme}
use Rattle.code.specs.Mapping.{symbol_at, symbol_of}
use Rattle.code.specs.Numbers.{num, read}
use Rattle.code.proofs.Blocks.{num_run}
use Rattle.code.proofs.mapping.symbol_at.Goals as goal

pub returns-clause-made : goal.returns-clause-made
unfolding symbol_at
returns-clause-made c =
    let s = plan_scheme c.args.plan.now in
    let array = c.args.array.now in
    let run = c.in_ok-locations.ensures.run in
    let start = c.in_ok-locations.locations.start in
    let end = c.in_ok-locations.locations.end in
    let size : end - start ≡ s.bits = omega (arith, run.1) in
    let long : length (mid_of start (end - start) array) ≡ s.bits = mid_len start end array (omega (arith, run.2)) ∙ size in
    let number : c.as_number.result ≡ num (read array) s.bits (c.args.place * s.bits) =
    c.as_number.ensures ∙ (λ i. num (read (mid_of start (size i) array)) (long i) 0) ∙ num_run array start s.bits ∙ ap (num (read array) s.bits) run.0 in
    c.symbol_for.ensures ∙ ap (symbol_of s.bits) number
