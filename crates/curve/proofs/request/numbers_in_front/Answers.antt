use Rattle.std.proofs.Common.{◌∙◌, ap, length}
use Rattle.std.specs.Prelude.{string_bytes, unwrap_or}
use Rattle.curve.specs.Words.{is_dashed}
use Rattle.curve.proofs.Requests.{dashed_place, place_or_length}
use Rattle.curve.proofs.request.numbers_in_front.Goals as goal

pub returns-clause-place : goal.returns-clause-place
returns-clause-place c =
    let ws = c.args.words.now in
    c.unwrap_or.ensures ∙ ap (λ o. unwrap_or o (length ws)) c.first_option.ensures ∙ place_or_length (λ w. is_dashed (string_bytes w)) ws ∙ dashed_place ws
