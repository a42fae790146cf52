use Rattle.std.proofs.Common.{[], ◌∷◌, refl}
use Rattle.std.proofs.lemmas.Result.{err_from_is_err_and}
use Rattle.orders.specs.Settings.{Score, Table, OfReceiving}
use Rattle.orders.specs.Words.{bytes_of}
use Rattle.orders.proofs.Options.{NoOption-alone, NoOption-to_receive}
use Rattle.orders.proofs.settings.Settings.set_to_receive.Goals as goal

pub returns-in_err-file-in-text-2 : goal.returns-in_err-file-in-text-2
returns-in_err-file-in-text-2 c =
    let p = err_from_is_err_and c.from_residual-in_err-file-in-text-2.result c.from_residual-in_err-file-in-text-2.ensures.1 in
    rw (p.1, p.2, c.in_err-file-in-text-2.ensures.1, c.in_err-file-in-text-2.ensures.0) (NoOption-alone OfReceiving c.args.name.now)

pub returns-in_ok-kind-in-text : goal.returns-in_ok-kind-in-text
returns-in_ok-kind-in-text c = (Score c.in_ok-kind-in-text.kind, tt, c.in-text.is, c.in_ok-kind-in-text.ensures, refl)

pub returns-in_ok-file-in-text-2 : goal.returns-in_ok-file-in-text-2
returns-in_ok-file-in-text-2 c =
    (Table c.in_ok-file-in-text-2.file, tt, c.in-text-2.is, (c.in_ok-file-in-text-2.file.now ∷ [], refl, c.in_ok-file-in-text-2.ensures), refl)

pub returns-in_default : goal.returns-in_default
returns-in_default c = NoOption-to_receive c.args.name.now (bytes_of c.args.words.now) c.in_default.not-text c.in_default.not-text-2
