use Rattle.std.proofs.Common.{◌≡◌, ◌*◌, length, Some, unwrap_or, sym, ◌∙◌, arith}
use borrow.Rule.Slice.PartMut.{mid_len}
use Rattle.std.proofs.lemmas.Bool.{and_parts, leb-true}
use Rattle.plan.specs.Plans.{plan_scheme}
use Rattle.plan.specs.Scheme.{sent_length}
use Rattle.plan.proofs.Facts.{facts}
use Rattle.code.specs.Numbers.{bit_of}
use Rattle.receiver.specs.Receivers.{view}
use Rattle.receiver.specs.Values.{heard, signed, with_values}
use Rattle.receiver.proofs.Runs.{run_set}
use Rattle.receiver.proofs.receiver.Receiver.hear.Goals as goal

pub set_bits-requires : goal.set_bits-requires
set_bits-requires g c =
    let s = plan_scheme c.args.self.now.plan in
    let known = facts s c.args.self.now.plan.accepted in
    let run = c.in_ok-locations.ensures.run in
    let lent = leb-true (sent_length s) (length c.args.memory.now) c.in_ok-check_memory.ensures in
    let long = mid_len c.in_ok-locations.locations.start c.in_ok-locations.locations.end c.args.memory.now (omega (arith, run.2, lent)) in
    (omega (arith, long, run.1, known.bits_high), leb-true c.args.weight 32767 (and_parts _ _ c.in_ok-check_index.ensures).1)

pub returns-clause-after : goal.returns-clause-after
returns-clause-after g c =
    let plan = c.args.self.now.plan in
    let s = plan_scheme plan in
    let m = g.S.Scrambler.meaning c.args.self.now.scrambler in
    let memory = c.args.memory.now in
    let run = c.in_ok-locations.ensures.run in
    let lent = leb-true (sent_length s) (length memory) c.in_ok-check_memory.ensures in
    let found : Some c.in_ok-number.number ≡ heard (view plan m) c.args.place c.args.index = sym c.in_ok-number.ensures.ok_part ∙ c.number_heard.ensures.value in
    run_set (λ q i. signed c.args.weight (bit_of q c.in_ok-number.number i)) memory c.set_bits.new.run c.in_ok-locations.locations.start c.in_ok-locations.locations.end
    _ s.bits run.0 run.1 (omega (arith, run.2, lent)) c.set_bits.ensures
    ∙ (λ x. with_values memory (c.args.place * s.bits) (λ i. signed c.args.weight (bit_of s.bits (unwrap_or (found x) 0) i)) s.bits)
