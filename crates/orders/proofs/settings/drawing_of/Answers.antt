use Rattle.std.proofs.Common.{[], ◌∷◌, inl, inr, string_bytes, refl, arith}
use Rattle.std.proofs.lemmas.Result.{err_from_is_err_and}
use Rattle.orders.specs.Slips.{numbers}
use Rattle.orders.specs.Settings.{OfSending}
use Rattle.orders.specs.Words.{bytes_of}
use Rattle.orders.proofs.Words.{length-bytes_of, two_are}
use Rattle.orders.proofs.Options.{NoOption-short}
use Rattle.orders.proofs.settings.drawing_of.Goals as goal

pub returns-in_default : goal.returns-in_default
returns-in_default c = NoOption-short OfSending (bytes_of c.args.words.now) (omega (arith, length-bytes_of c.args.words.now, c.in_default.len_below))

pub returns-in_err-blocks : goal.returns-in_err-blocks
returns-in_err-blocks c =
    let p = err_from_is_err_and c.from_residual.result c.from_residual.ensures.1 in
    let e = two_are c.args.words.now c.blocks-item.result c.seed-item.result c.as_str.result.now (string_bytes c.seed-item.result) c.in-len2-up.len_at_least c.blocks-item.is c.seed-item.is c.as_str.ensures.value refl in
    rw (p.1, p.2, e) (numbers (λ d. tt) (inl (c.in_err-blocks.ensures.read, c.in_err-blocks.ensures.told)))

pub returns-in_err-seed : goal.returns-in_err-seed
returns-in_err-seed c =
    let p = err_from_is_err_and c.from_residual-in_err-seed.result c.from_residual-in_err-seed.ensures.1 in
    let e = two_are c.args.words.now c.blocks-item.result c.seed-item.result c.as_str.result.now c.as_str-2.result.now c.in-len2-up.len_at_least c.blocks-item.is c.seed-item.is c.as_str.ensures.value c.as_str-2.ensures.value in
    rw (p.1, p.2, e) (numbers (λ d. tt) (inr (_, c.in_ok-blocks.ensures.read, inl (c.in_err-seed.ensures.read, c.in_err-seed.ensures.told))))

pub returns : goal.returns
returns c = (
  _ ∷ _ ∷ [],
  (_, _, c.in_ok-blocks.ensures.read, c.in_ok-seed.ensures.read, refl),
  two_are c.args.words.now c.blocks-item.result c.seed-item.result c.as_str.result.now c.as_str-2.result.now c.in-len2-up.len_at_least c.blocks-item.is c.seed-item.is c.as_str.ensures.value c.as_str-2.ensures.value,
)
