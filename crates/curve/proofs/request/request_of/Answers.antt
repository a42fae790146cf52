use Rattle.curve.proofs.Requests.{first_word, usual_words}
use Rattle.curve.proofs.request.request_of.Goals as goal

pub returns-in_default : goal.returns-in_default
returns-in_default c = usual_words c.args.words.now c.default.result c.in_default.len_below c.default.ensures

pub returns-in-rows : goal.returns-in-rows
returns-in-rows c = first_word c.args.words.now c.word-item.result c.as_str.result.now _ c.in-len1-up.len_at_least c.word-item.is c.as_str.ensures.value c.in-rows.is

pub returns-in-time : goal.returns-in-time
returns-in-time c = first_word c.args.words.now c.word-item.result c.as_str.result.now _ c.in-len1-up.len_at_least c.word-item.is c.as_str.ensures.value c.in-time.is
