use Rattle.std.proofs.Common.{◌≡◌, ◌%◌, is_some, Some, sym, refl, ap, ◌∙◌, arith}
use Rattle.plan.specs.Plans.{plan_scheme}
use Rattle.plan.proofs.Facts.{facts}
use Rattle.code.specs.Mapping.{number_of}
use Rattle.scrambler.specs.Meaning.{value_at}
use Rattle.sender.specs.Scrambling.{unscrambled}
use Rattle.sender.specs.Transmission.{value_for}
use Rattle.sender.proofs.Frames.{value_found}
use Rattle.receiver.proofs.receiver.Receiver.number_heard.Given as given
use Rattle.receiver.proofs.receiver.Receiver.number_heard.Goals as goal
use Rattle.receiver.proofs.receiver.Receiver.number_heard.Goals.{After-value}

-- the scrambler has a value at the symbol's place in its frame
valued : (g : given.Over) (c : After-value g) → c.value.result ≡ Some (value_for (plan_scheme c.args.self.now.plan) (g.S.Scrambler.meaning c.args.self.now.scrambler) c.args.place)
valued g c =
    let x = c.args.self.now in
    let s = plan_scheme x.plan in
    let m = g.S.Scrambler.meaning x.scrambler in
    c.value.ensures.value ∙ ap (λ p. value_at m (c.args.place % p.frame_length)) c.parts-parts.ensures
    ∙ value_found s m (facts s x.plan.accepted).frame_low x.fit c.args.place (c.args.place % s.frame) refl

pub nonzero_rem-place : goal.nonzero_rem-place
nonzero_rem-place g c =
    let plan = c.args.self.now.plan in
    omega (arith, (facts (plan_scheme plan) plan.accepted).frame_low, ap (λ p. p.frame_length) c.parts-parts.ensures)

pub unwrap-value-requires : goal.unwrap-value-requires
unwrap-value-requires g c = ap is_some (valued g c)

pub returns-clause-value : goal.returns-clause-value
returns-clause-value g c =
    let x = c.args.self.now in
    let s = plan_scheme x.plan in
    let some : Some c.unwrap-value.result ≡ Some (value_for s (g.S.Scrambler.meaning x.scrambler) c.args.place) = sym c.unwrap-value.ensures ∙ valued g (goal.at.returns-clause-value g c).After-value in
    let same : c.unwrap-value.result ≡ value_for s (g.S.Scrambler.meaning x.scrambler) c.args.place = cc some in
    c.number_for.ensures.value ∙ ap (number_of s.bits) (c.unscramble.ensures ∙ (λ i. unscrambled (c.parts-parts.ensures i).symbol_bits c.args.index (same i)))
