use Rattle.std.proofs.Common.{◌≡◌, false, ◌+◌, ◌*◌, [], ◌∷◌, ◌++◌, length, sym, ap, ◌∙◌, subst, arith, rules}
use Rattle.std.specs.Io.KnownBytes.{Appends}
use Rattle.std.proofs.lemmas.List.{with_items_is}
use Rattle.std.proofs.lemmas.Result.{err_from_is_err_and}
use Rattle.air_text.specs.Lines.{air_text}
use Rattle.bits_text.specs.Texts.{Bits}
use Rattle.channel.specs.Drawing.{state_after, drawn_bits}
use Rattle.code.specs.Numbers.{bits_of}
use Rattle.plan.specs.Plans.{plan_scheme}
use Rattle.sender.specs.Answers.{making_answer, send_answer}
use Rattle.sender.specs.Transmission.{symbols, transmission}
use Rattle.laboratory.specs.Sending.{Written, count_on, on_air, bit_lines, drawn_blocks}
use Rattle.laboratory.proofs.Sent.{written_none, written_more, drawn_more, state_more, drawn_long, drawn_are_bits}
use Rattle.laboratory.proofs.TextSent.{block_sent, not_sent}
use Rattle.laboratory.proofs.sending.send_drawn.Goals as goal

pub loop-sent-init : goal.loop-sent-init
loop-sent-init g c =
    let none : 0 * c.args.plan.now.parts.block_length ≡ 0 = omega arith in
    record {
      scheme = c.in_ok-sending.ensures.scheme;
      meaning = c.in_ok-sending.ensures.meaning;
      long = search rules;
      state = c.new-generator.ensures ∙ ap (λ n. state_after n c.args.seed) (sym none);
      written = written_none (plan_scheme c.args.plan.now) (g.S.Scrambler.meaning c.args.scrambler) c.in_ok-sending.sending.blocks
          (g.W.Write.contents c.args.output.now) (g.C.Write.contents c.args.copy.now) c.in_ok-sending.ensures.none;
    }

pub loop-sent-preserved : goal.loop-sent-preserved
loop-sent-preserved g c =
    let i = c.loop-sent.invariant in
    let s = plan_scheme c.args.plan.now in
    let m = g.S.Scrambler.meaning c.args.scrambler in
    let bits = c.args.plan.now.parts.block_length in
    let n = c.loop-sent._sent in
    let bs = drawn_blocks bits c.args.seed n in
    let b = c.as_slice.result.now in
    let number = c.loop-sent.sending.blocks in
    let long : length c.as_mut_slice.result.now ≡ bits = ap length c.as_mut_slice.ensures.value ∙ i.long in
    let drawn : c.draw_bits.new.out ≡ drawn_bits (state_after (n * bits) c.args.seed) bits = c.draw_bits.ensures.bits ∙ (λ k. drawn_bits (i.state k) (long k)) in
    let filled = with_items_is c.loop-sent.block c.draw_bits.new.out (c.draw_bits.auto.out ∙ c.as_mut_slice.ensures.len) in
    let block : b ≡ drawn_bits (state_after (n * bits) c.args.seed) bits = c.as_slice.ensures.value ∙ filled ∙ drawn in
    let air : Appends (g.W.Write.contents c.loop-sent.output) (g.W.Write.contents c.send.new.output) (air_text (count_on number) (transmission s m (bits_of b))) =
    subst (Appends (g.W.Write.contents c.loop-sent.output) (g.W.Write.contents c.send.new.output))
    (λ k. air_text (count_on number) (transmission (i.scheme k) (i.meaning k) (bits_of b))) c.in_ok-send.ensures.air in
    let more = written_more s m bs b number c.send.new.self.blocks (g.W.Write.contents c.args.output.now) (g.W.Write.contents c.loop-sent.output)
    (g.W.Write.contents c.send.new.output) (g.C.Write.contents c.args.copy.now) (g.C.Write.contents c.loop-sent.copy) (g.C.Write.contents c.send.new.copy)
    i.written c.in_ok-send.ensures.number air c.in_ok-send.ensures.bits in
    let all : bs ++ b ∷ [] ≡ drawn_blocks bits c.args.seed (n + 1) = ap (λ x. bs ++ x ∷ []) block ∙ drawn_more bits c.args.seed n in
    record {
      scheme = c.send.ensures.scheme ∙ i.scheme;
      meaning = c.send.ensures.meaning ∙ i.meaning;
      long = ap length filled ∙ ap length drawn ∙ drawn_long (state_after (n * bits) c.args.seed) bits;
      state = c.draw_bits.ensures.after ∙ (λ k. state_after (long k) (i.state k)) ∙ state_more bits c.args.seed n;
      written = subst
          (λ x. Written s m x c.send.new.self.blocks (g.W.Write.contents c.args.output.now) (g.W.Write.contents c.send.new.output) (g.C.Write.contents c.args.copy.now)
          (g.C.Write.contents c.send.new.copy))
          all more;
    }

pub returns-in_err-send-clause-refused : goal.returns-in_err-send-clause-refused
returns-in_err-send-clause-refused g c =
    let i = c.loop-sent.invariant in
    let s = plan_scheme c.args.plan.now in
    let m = g.S.Scrambler.meaning c.args.scrambler in
    let bits = c.args.plan.now.parts.block_length in
    let state = state_after (c.loop-sent._sent * bits) c.args.seed in
    let b = c.as_slice.result.now in
    let long : length c.as_mut_slice.result.now ≡ bits = ap length c.as_mut_slice.ensures.value ∙ i.long in
    let drawn : c.draw_bits.new.out ≡ drawn_bits state bits = c.draw_bits.ensures.bits ∙ (λ k. drawn_bits (i.state k) (long k)) in
    let filled = with_items_is c.loop-sent.block c.draw_bits.new.out (c.draw_bits.auto.out ∙ c.as_mut_slice.ensures.len) in
    let block : b ≡ drawn_bits state bits = c.as_slice.ensures.value ∙ filled ∙ drawn in
    let zero = (λ k. send_answer (i.scheme k) (i.meaning k) b (symbols (i.scheme k)))
    ∙ block_sent s m [] b c.in_ok-sending.ensures.fit (ap length block ∙ drawn_long state bits) (subst Bits (sym block) (drawn_are_bits state bits)) in
    let p = err_from_is_err_and c.from_residual-in_err-send.result c.from_residual-in_err-send.ensures.1 in
    rw (p.1, p.2) (not_sent _ (making_answer s m false) c.in_err-send.field-0.0 zero c.in_err-send.ensures.refused)

pub returns-clause-air : goal.returns-clause-air
returns-clause-air g c =
    let done : c.loop-sent._sent ≡ c.args.blocks = search rules in
    subst
    (λ n. Appends (g.W.Write.contents c.args.output.now) (g.W.Write.contents c.loop-sent.output)
    (on_air (plan_scheme c.args.plan.now) (g.S.Scrambler.meaning c.args.scrambler) (drawn_blocks c.args.plan.now.parts.block_length c.args.seed n)))
    done c.loop-sent.invariant.written.air

pub returns-clause-bits : goal.returns-clause-bits
returns-clause-bits g c =
    let done : c.loop-sent._sent ≡ c.args.blocks = search rules in
    subst
    (λ n. Appends (g.C.Write.contents c.args.copy.now) (g.C.Write.contents c.loop-sent.copy) (bit_lines (drawn_blocks c.args.plan.now.parts.block_length c.args.seed n)))
    done c.loop-sent.invariant.written.bits
