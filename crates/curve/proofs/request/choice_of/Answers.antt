use Rattle.std.proofs.Common.{◌≡◌, length, arith}
use Rattle.curve.proofs.Requests.{named_by_four}
use Rattle.curve.proofs.request.choice_of.Goals as goal

pub returns-in-len4 : goal.returns-in-len4
returns-in-len4 c =
    let four : length c.args.words.now ≡ 4 = omega arith in
    named_by_four c.args.words.now c.bandwidth-item.result c.waveform-item.result c.interleaver-item.result c.constraint-item.result
    c.as_str.result.now c.as_str-in-len4.result.now c.as_str-in-len4-2.result.now c.as_str-in-len4-3.result.now c.four_numbers.result
    four c.bandwidth-item.is c.waveform-item.is c.interleaver-item.is c.constraint-item.is
    c.as_str.ensures.value c.as_str-in-len4.ensures.value c.as_str-in-len4-2.ensures.value c.as_str-in-len4-3.ensures.value c.four_numbers.ensures
