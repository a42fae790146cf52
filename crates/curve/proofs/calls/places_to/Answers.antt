use Rattle.std.proofs.Common.{◌≡◌, ◌++◌, [], ◌∷◌, sym, ap, ◌∙◌, rules}
use Rattle.std.specs.List.{range_with_len}
use Rattle.curve.proofs.Turns.{range_more}
use Rattle.curve.proofs.calls.places_to.Goals as goal

pub loop-place-preserved : goal.loop-place-preserved
loop-place-preserved c = c.in_ok-push.ensures.items ∙ ap (λ l. l ++ c.loop-place.place ∷ []) c.loop-place.invariant ∙ sym (range_more c.loop-place.place)

pub returns : goal.returns
returns c =
    let all : c.loop-place.place ≡ c.args.count = search rules in
    c.loop-place.invariant ∙ ap (range_with_len 0) all
