use Rattle.std.proofs.Common.{◌≡◌, ◌+◌, ◌<◌, ◌∷◌, length, drop, sym, subst, inl, inr, arith, rules}
use Rattle.curve.specs.Sentences.{slip_sentence}
use Rattle.curve.specs.Words.{bytes_of, SetsAll, RefusesAll}
use Rattle.curve.proofs.Requests.{drop_words}
use Rattle.curve.proofs.request.with_all.Goals as goal

pub returns-in_err-setting_of : goal.returns-in_err-setting_of
returns-in_err-setting_of c =
    let i = c.loop-word.word-index in
    let ws = c.args.options.now in
    let words = drop_words ws i c.word-item.result c.as_str.result.now (omega arith) c.word-item.is c.as_str.ensures.value in
    let slip = c.in_err-setting_of.field-0.0 in
    let told : RefusesAll (bytes_of ws) (slip_sentence slip) =
    c.loop-word.invariant.refuses (slip_sentence slip) (subst (λ l. RefusesAll l (slip_sentence slip)) (sym words) (inl c.in_err-setting_of.ensures)) in
    search (rules, told)

pub loop-word-preserved : goal.loop-word-preserved
loop-word-preserved c =
    let i = c.loop-word.word-index in
    let ws = c.args.options.now in
    let words = drop_words ws i c.word-item.result c.as_str.result.now (omega arith) c.word-item.is c.as_str.ensures.value in
    let s = c.in_ok-setting_of.field-0 in
    record {
      sets = λ all h. c.loop-word.invariant.sets all (subst (λ l. SetsAll l c.loop-word.now all) (sym words)
          (s, c.in_ok-setting_of.ensures, subst (λ r. SetsAll (bytes_of (drop (i + 1) ws)) r all) c.with-now.ensures h));
      refuses = λ sentence h. c.loop-word.invariant.refuses sentence (subst (λ l. RefusesAll l sentence) (sym words) (inr ((s, c.in_ok-setting_of.ensures), h)));
    }
