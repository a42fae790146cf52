use Rattle.std.proofs.Common.{◌≡◌, ◌<◌, ◌++◌, [], ◌∷◌, is_some, Some, refl, ap, sym, ◌∙◌, zero-add, rules}
use Rattle.std.proofs.lemmas.List.FromFn.{map-range_with_len_more}
use Rattle.scrambler.specs.Meaning.{value_at}
use Rattle.scrambler.specs.Meanings.{register_meaning}
use Rattle.scrambler.specs.Shifts.{drawn}
use Rattle.scrambler.proofs.Reaching.{drawn_value}
use Rattle.laboratory.proofs.table.register_values.Goals as goal

pub unwrap-requires : goal.unwrap-requires
unwrap-requires c =
    let place = c.loop-place.place in
    let near : place < 4096 = search rules in
    let drawn_here = drawn_value c.args.width place (drawn c.args.width place) near refl in
    ap is_some (c.value.ensures.value ∙ ap (λ m. value_at m place) c.loop-place.invariant.meaning ∙ sym drawn_here)

pub loop-place-preserved : goal.loop-place-preserved
loop-place-preserved c =
    let width = c.args.width in
    let place = c.loop-place.place in
    let near : place < 4096 = search rules in
    let answered : c.value.result ≡ value_at (register_meaning c.loop-place.register) place = c.value.ensures.value in
    let drawn_here = drawn_value width place (drawn width place) near refl in
    let some : Some c.unwrap.result ≡ Some (drawn width place) =
    sym c.unwrap.ensures ∙ answered ∙ ap (λ m. value_at m place) c.loop-place.invariant.meaning ∙ sym drawn_here in
    let value : c.unwrap.result ≡ drawn width place = cc some in
    let more = map-range_with_len_more (drawn width) 0 place place (zero-add place) in
    record {
      listed = c.in_ok-push.ensures.items ∙ (λ k. c.loop-place.invariant.listed k ++ value k ∷ []) ∙ sym more;
      meaning = c.value.ensures.kept ∙ c.loop-place.invariant.meaning;
    }
