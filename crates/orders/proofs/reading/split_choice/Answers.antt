use Rattle.std.proofs.Common.{◌≤◌, length, inr, arith}
use Rattle.std.proofs.lemmas.Result.{err_from_is_err_and}
use Rattle.orders.specs.Words.{bytes_of}
use Rattle.orders.proofs.Words.{length-bytes_of, four_are}
use Rattle.orders.proofs.reading.split_choice.Goals as goal

pub returns-in_err-choice : goal.returns-in_err-choice
returns-in_err-choice c =
    let p = err_from_is_err_and c.from_residual.result c.from_residual.ensures.1 in
    let e = four_are c.args.words.now c.bandwidth-item.result c.waveform-item.result c.interleaver-item.result c.constraint-item.result
    c.as_str.result.now c.as_str-2.result.now c.as_str-3.result.now c.as_str-4.result.now c.in-len4-up.len_at_least
    c.bandwidth-item.is c.waveform-item.is c.interleaver-item.is c.constraint-item.is
    c.as_str.ensures.value c.as_str-2.ensures.value c.as_str-3.ensures.value c.as_str-4.ensures.value in
    let n : 4 ≤ length (bytes_of c.args.words.now) = omega (arith, length-bytes_of c.args.words.now, c.in-len4-up.len_at_least) in
    rw (p.1, p.2) (inr (n, rw e c.in_err-choice.ensures))
