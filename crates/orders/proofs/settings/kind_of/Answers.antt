use Rattle.std.proofs.Common.{codes, refl}
use Rattle.std.proofs.lemmas.Result.{err_from_is_err_and}
use Rattle.orders.specs.Slips.{kind}
use Rattle.orders.specs.Settings.{OfReceiving}
use Rattle.orders.proofs.Words.{first_is, none_of}
use Rattle.orders.proofs.Options.{NoOption-alone}
use Rattle.orders.proofs.settings.kind_of.Goals as goal

pub returns-in_err-score_kind-in-len1-up : goal.returns-in_err-score_kind-in-len1-up
returns-in_err-score_kind-in-len1-up c =
    let p = err_from_is_err_and c.from_residual.result c.from_residual.ensures.1 in
    let e = first_is c.args.words.now c.kind-item.result c.as_str.result.now c.as_str.result.now c.in-len1-up.len_at_least c.kind-item.is c.as_str.ensures.value refl in
    rw (p.1, p.2, c.in_err-score_kind-in-len1-up.ensures.0, e) (kind (λ k. tt) c.in_err-score_kind-in-len1-up.ensures.1)

pub returns-in-empty : goal.returns-in-empty
returns-in-empty c = rw (none_of c.args.words.now c.in-empty.len_below) (NoOption-alone OfReceiving (codes "--score"))
