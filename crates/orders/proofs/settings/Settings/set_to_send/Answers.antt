use Rattle.std.proofs.Common.{[], ◌∷◌, refl}
use Rattle.std.proofs.lemmas.Result.{err_from_is_err_and}
use Rattle.orders.specs.Settings.{Random, Copy, Table, OfSending}
use Rattle.orders.specs.Words.{bytes_of}
use Rattle.orders.proofs.Options.{NoOption-alone, NoOption-to_send}
use Rattle.orders.proofs.settings.Settings.set_to_send.Goals as goal

pub returns-in_err-file-in-text-2 : goal.returns-in_err-file-in-text-2
returns-in_err-file-in-text-2 c =
    let p = err_from_is_err_and c.from_residual-in_err-file-in-text-2.result c.from_residual-in_err-file-in-text-2.ensures.1 in
    rw (p.1, p.2, c.in_err-file-in-text-2.ensures.1, c.in_err-file-in-text-2.ensures.0) (NoOption-alone OfSending c.args.name.now)

pub returns-in_err-file-in-text-3 : goal.returns-in_err-file-in-text-3
returns-in_err-file-in-text-3 c =
    let p = err_from_is_err_and c.from_residual-in_err-file-in-text-3.result c.from_residual-in_err-file-in-text-3.ensures.1 in
    rw (p.1, p.2, c.in_err-file-in-text-3.ensures.1, c.in_err-file-in-text-3.ensures.0) (NoOption-alone OfSending c.args.name.now)

pub returns-in_ok-drawing-in-text : goal.returns-in_ok-drawing-in-text
returns-in_ok-drawing-in-text c = (Random c.in_ok-drawing-in-text.drawing, tt, c.in-text.is, c.in_ok-drawing-in-text.ensures, refl)

pub returns-in_ok-file-in-text-2 : goal.returns-in_ok-file-in-text-2
returns-in_ok-file-in-text-2 c =
    (Copy c.in_ok-file-in-text-2.file, tt, c.in-text-2.is, (c.in_ok-file-in-text-2.file.now ∷ [], refl, c.in_ok-file-in-text-2.ensures), refl)

pub returns-in_ok-file-in-text-3 : goal.returns-in_ok-file-in-text-3
returns-in_ok-file-in-text-3 c =
    (Table c.in_ok-file-in-text-3.file, tt, c.in-text-3.is, (c.in_ok-file-in-text-3.file.now ∷ [], refl, c.in_ok-file-in-text-3.ensures), refl)

pub returns-in_default : goal.returns-in_default
returns-in_default c = NoOption-to_send c.args.name.now (bytes_of c.args.words.now) c.in_default.not-text c.in_default.not-text-2 c.in_default.not-text-3
