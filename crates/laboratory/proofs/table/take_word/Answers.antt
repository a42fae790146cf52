use Rattle.std.proofs.Common.{[], ◌∷◌, refl, ap}
use Rattle.laboratory.proofs.Worded.{parsed, not_parsed, none_taken}
use Rattle.laboratory.proofs.table.take_word.Goals as goal

pub returns-in-Err : goal.returns-in-Err
returns-in-Err c = (refl, λ values k. none_taken c.args.word.now values (not_parsed c.args.word.now c.in-Err.field-0 c.in-Err.ensures.value.0) k)

pub returns : goal.returns
returns c = (c.in-Ok.value ∷ [], ap (λ o. o ∷ []) (parsed c.args.word.now c.in-Ok.value c.in-Ok.ensures.value.0), c.in_ok-push-in-Ok.ensures.items)
