use Rattle.std.proofs.Common.{sym, ◌∙◌}
use Rattle.speed.proofs.Asked.{first_word}
use Rattle.speed.proofs.request.request_of.Goals as goal

pub returns-in-time : goal.returns-in-time
returns-in-time c = (_, first_word c.args.words.now c.word-item.result _ c.in-len1-up.len_at_least c.word-item.is (sym c.as_str.ensures.value ∙ c.in-time.is))

pub returns-in-growth : goal.returns-in-growth
returns-in-growth c = (_, first_word c.args.words.now c.word-item.result _ c.in-len1-up.len_at_least c.word-item.is (sym c.as_str.ensures.value ∙ c.in-growth.is))

pub returns-in_ok-batch_of-in-blocks : goal.returns-in_ok-batch_of-in-blocks
returns-in_ok-batch_of-in-blocks c =
    (_, first_word c.args.words.now c.word-item.result _ c.in-len1-up.len_at_least c.word-item.is (sym c.as_str.ensures.value ∙ c.in-blocks.is), c.in_ok-batch_of-in-blocks.ensures)

pub returns-in_ok-batch_of-in-looks : goal.returns-in_ok-batch_of-in-looks
returns-in_ok-batch_of-in-looks c =
    (_, first_word c.args.words.now c.word-item.result _ c.in-len1-up.len_at_least c.word-item.is (sym c.as_str.ensures.value ∙ c.in-looks.is), c.in_ok-batch_of-in-looks.ensures)
