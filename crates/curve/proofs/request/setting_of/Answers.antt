use Rattle.std.proofs.Common.{◌≡◌, ◌+◌, ◌<◌, Some, arith, rules}
use Rattle.std.proofs.lemmas.Str.Pattern.{split_parts}
use Rattle.curve.proofs.Requests.{valued_word}
use Rattle.curve.proofs.request.setting_of.Goals as goal

pub returns-in-Some : goal.returns-in-Some
returns-in-Some c =
    let parts = split_parts 61 c.args.word.now (Some (c.in-Some.name, c.in-Some.value)) c.in-Some.ensures.cases (omega arith) in
    valued_word c.args.word.now c.in-Some.name.now c.in-Some.value.now c.valued_setting.result parts.0 parts.1 c.valued_setting.ensures
