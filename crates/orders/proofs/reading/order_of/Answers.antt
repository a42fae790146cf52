use Rattle.std.proofs.Common.{codes, refl}
use Rattle.orders.specs.Slips.{no_word}
use Rattle.orders.proofs.Words.{first_is, none_of}
use Rattle.orders.proofs.Refused.{refused, Tells-word}
use Rattle.orders.proofs.reading.order_of.Goals as goal

pub returns-in_default-clause-read : goal.returns-in_default-clause-read
returns-in_default-clause-read c = rw (none_of c.args.words.now c.in_default.len_below) no_word

pub returns-in_default-as_str-clause-read : goal.returns-in_default-as_str-clause-read
returns-in_default-as_str-clause-read c =
    let e = first_is c.args.words.now c.word-item.result c.as_str.result.now c.as_str.result.now c.in-len1-up.len_at_least c.word-item.is c.as_str.ensures.value refl in
    rw e (Tells-word _ _ c.in_default-as_str.not-rows c.in_default-as_str.not-plan c.in_default-as_str.not-send c.in_default-as_str.not-receive c.in_default-as_str.not-count)

pub returns-in-plan-clause-refused : goal.returns-in-plan-clause-refused
returns-in-plan-clause-refused c =
    refused _ _ c.plan_order.result
    (first_is c.args.words.now c.word-item.result c.as_str.result.now (codes "plan") c.in-len1-up.len_at_least c.word-item.is c.as_str.ensures.value c.in-plan.is)
    c.plan_order.ensures

pub returns-in-send-clause-refused : goal.returns-in-send-clause-refused
returns-in-send-clause-refused c =
    refused _ _ c.send_order.result
    (first_is c.args.words.now c.word-item.result c.as_str.result.now (codes "send") c.in-len1-up.len_at_least c.word-item.is c.as_str.ensures.value c.in-send.is)
    c.send_order.ensures

pub returns-in-receive-clause-refused : goal.returns-in-receive-clause-refused
returns-in-receive-clause-refused c =
    refused _ _ c.receive_order.result
    (first_is c.args.words.now c.word-item.result c.as_str.result.now (codes "receive") c.in-len1-up.len_at_least c.word-item.is c.as_str.ensures.value c.in-receive.is)
    c.receive_order.ensures
