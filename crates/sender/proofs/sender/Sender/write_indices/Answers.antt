use Rattle.std.proofs.Common.{◌≡◌, ◌+◌, ◌*◌, ◌/◌, ◌%◌, ◌≤◌, length, sym, refl, ap, ◌∙◌, subst, add-mul, arith}
use native.Mathlib.Nat.{mul-mod_left}
use Rattle.plan.specs.Plans.{plan_scheme}
use Rattle.plan.proofs.Facts.{facts}
use Rattle.code.proofs.Filled.{Filled, filled_all}
use Rattle.sender.specs.Senders.{sender_index}
use Rattle.sender.specs.Transmission.{symbols}
use Rattle.sender.proofs.Frames.{frames_whole, frame_within}
use Rattle.sender.proofs.Keeping.{same_index, kept_on}
use Rattle.sender.proofs.Writing.{filled_run}
use Rattle.sender.proofs.sender.Sender.write_indices.Goals as goal

pub nonzero_div-frame-end : goal.nonzero_div-frame-end
nonzero_div-frame-end g c =
    let plan = c.args.self.now.plan.now in
    omega (arith, (facts (plan_scheme plan) plan.accepted).frame_low, ap (λ p. p.frame_length) c.parts.ensures)

pub write_frame-requires-clause-starts : goal.write_frame-requires-clause-starts
write_frame-requires-clause-starts g c =
    let size = c.parts.result.now.frame_length in
    ap (λ n. c.loop-frame.frame * size % n) (ap (λ p. (plan_scheme p).frame) c.loop-frame.invariant.0.0 ∙ sym (ap (λ p. p.frame_length) c.parts.ensures))
    ∙ mul-mod_left c.loop-frame.frame size

pub loop-frame-preserved : goal.loop-frame-preserved
loop-frame-preserved g c =
    let means = g.S.Scrambler.meaning in
    let was = c.args.self.now in
    let now = c.loop-frame.self in
    let kept = c.loop-frame.invariant.0 in
    let size = c.parts.result.now.frame_length in
    let first = c.loop-frame.frame * size in
    let room : first + size ≤ length c.loop-frame.out = omega (arith, frame_within c.loop-frame.frame size c.symbols.result c.loop-frame-test.true) in (
      kept_on means was now c.write_frame.new.self kept c.write_frame.ensures.kept,
      filled_run (sender_index means was) c.args.out.now c.loop-frame.out first size c.loop-frame.invariant.1 room (sender_index means now) c.write_frame.new.out (first + size) ((c.loop-frame.frame + 1) * size)
          (same_index means was now kept) refl
          (omega (arith, add-mul c.loop-frame.frame 1 size))
          c.write_frame.ensures.after,
    )

pub returns-clause-after : goal.returns-clause-after
returns-clause-after g c =
    let plan = c.args.self.now.plan.now in
    let s = plan_scheme plan in
    let f = sender_index g.S.Scrambler.meaning c.args.self.now in
    let whole = frames_whole s (facts s plan.accepted) in
    let size : c.parts.result.now.frame_length ≡ s.frame = ap (λ p. p.frame_length) c.parts.ensures in
    let last : c.loop-frame.frame ≡ c.symbols.result / c.parts.result.now.frame_length = omega arith in
    let all : c.loop-frame.frame * c.parts.result.now.frame_length ≡ symbols s = (λ j. (last ∙ (λ k. c.symbols.ensures k / size k)) j * size j) ∙ whole in
    filled_all f (symbols s) c.args.out.now c.loop-frame.out c.requires (subst (λ n. Filled f n c.args.out.now c.loop-frame.out) all c.loop-frame.invariant.1)
