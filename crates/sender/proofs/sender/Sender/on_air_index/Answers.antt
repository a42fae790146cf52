use Rattle.std.proofs.Common.{◌≡◌, is_some, Some, sym, ap, ◌∙◌}
use Rattle.std.proofs.lemmas.Result.{IfOk-at_ok}
use Rattle.plan.specs.Plans.{plan_scheme}
use Rattle.plan.proofs.Facts.{facts}
use Rattle.code.specs.Mapping.{symbol_at}
use Rattle.sender.specs.Scrambling.{scrambled}
use Rattle.sender.specs.Transmission.{index_at, value_for}
use Rattle.sender.proofs.Frames.{value_found}
use Rattle.sender.proofs.sender.Sender.on_air_index.Goals as goal

pub unwrap-value-requires : goal.unwrap-value-requires
unwrap-value-requires g c =
    let sender = c.args.self.now in
    let s = plan_scheme sender.plan.now in
    let found = value_found s (g.S.Scrambler.meaning sender.scrambler) (facts s sender.plan.now.accepted).frame_low sender.fit c.args.i c.args.place c.requires.placed in
    ap is_some (c.value.ensures.value ∙ found)

pub returns-clause-value : goal.returns-clause-value
unfolding index_at
returns-clause-value g c =
    let sender = c.args.self.now in
    let s = plan_scheme sender.plan.now in
    let m = g.S.Scrambler.meaning sender.scrambler in
    let array = c.as_slice.result.now in
    let found = value_found s m (facts s sender.plan.now.accepted).frame_low sender.fit c.args.i c.args.place c.requires.placed in
    let some : Some c.unwrap-value.result ≡ Some (value_for s m c.args.i) = sym c.unwrap-value.ensures ∙ c.value.ensures.value ∙ found in
    let value : c.unwrap-value.result ≡ value_for s m c.args.i = cc some in
    let symbol = IfOk-at_ok (λ y. y ≡ symbol_at s array c.args.i) c.unwrap-symbol.ensures c.symbol_at.ensures.made ∙ ap (λ l. symbol_at s l c.args.i) c.as_slice.ensures.value in
    let bits : c.parts.result.now.symbol_bits ≡ s.bits = ap (λ p. p.symbol_bits) c.parts.ensures in
    c.scramble.ensures ∙ (λ j. scrambled (bits j) (symbol j) (value j))
