use Rattle.std.proofs.Common.{◌≡◌, ◌+◌, ◌%◌, length, ap, ◌∙◌, sym, arith}
use Rattle.plan.specs.Plans.{plan_scheme}
use Rattle.code.proofs.Filled.{filled_more}
use Rattle.sender.specs.Senders.{sender_index}
use Rattle.sender.proofs.Frames.{place_is}
use Rattle.sender.proofs.Keeping.{same_index, kept_on}
use Rattle.sender.proofs.Writing.{filled_whole}
use Rattle.sender.proofs.sender.Sender.write_frame.Goals as goal

pub on_air_index-requires-clause-placed : goal.on_air_index-requires-clause-placed
on_air_index-requires-clause-placed g c =
    let s = plan_scheme c.args.self.now.plan.now in
    place_is c.args.first c.loop-place.place s.frame c.requires.starts (omega arith)
    ∙ ap (λ p. (c.args.first + c.loop-place.place) % (plan_scheme p).frame) (sym c.loop-place.invariant.0.0)

pub loop-place-preserved : goal.loop-place-preserved
loop-place-preserved g c =
    let means = g.S.Scrambler.meaning in
    let was = c.args.self.now in
    let now = c.loop-place.self in
    let kept = c.loop-place.invariant.0 in
    let i = c.args.first + c.loop-place.place in (
      kept_on means was now c.on_air_index.new.self kept c.on_air_index.ensures.kept,
      filled_more (λ place. sender_index means was (c.args.first + place)) c.loop-place.place c.args.out.now c.loop-place.out _ c.loop-place.invariant.1
          (c.on_air_index.ensures.value ∙ ap (λ f. f i) (same_index means was now kept)),
    )

pub returns-clause-after : goal.returns-clause-after
returns-clause-after g c =
    let f = sender_index g.S.Scrambler.meaning c.args.self.now in
    let all : c.loop-place.place ≡ length c.args.out.now = omega arith in
    filled_whole (λ place. f (c.args.first + place)) c.loop-place.place c.args.out.now c.loop-place.out all c.loop-place.invariant.1
