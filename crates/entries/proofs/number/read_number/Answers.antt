use Rattle.std.proofs.Common.{◌∙◌, sym, ap, subst, arith}
use Rattle.std.proofs.lemmas.Bool.{false≢true}
use Rattle.std.proofs.lemmas.Fmt.{IsAscii-decimal}
use Rattle.std.proofs.lemmas.Str.{IsUtf8-from_ascii}
use Rattle.std.specs.Fmt.{decimal}
use Rattle.std.specs.Str.{IsUtf8}
use Rattle.std.specs.Str.Parse.{ParsesUnsigned}
use Rattle.entries.specs.Words.{canonical}
use Rattle.entries.proofs.Numbers.{begins, begins_number, decimal_begins, number_read, number_there}
use Rattle.entries.proofs.number.read_number.Goals as goal

pub returns-then-not-is_canonical : goal.returns-then-not-is_canonical
returns-then-not-is_canonical c n small e =
    false≢true (sym c.if-not-is_canonical.true ∙ c.is_canonical.ensures ∙ ap canonical (sym e) ∙ begins_number (decimal n) (decimal_begins n (omega arith)))

pub returns-in-Err : goal.returns-in-Err
returns-in-Err c n small e = c.in-Err.ensures.cases.0 (subst IsUtf8 e (IsUtf8-from_ascii (decimal n) (IsAscii-decimal n (omega arith))))

pub returns-in-Ok : goal.returns-in-Ok
returns-in-Ok c =
    let word = c.args.word.now in
    let first = begins word (sym c.is_canonical.ensures ∙ c.if-not-is_canonical.false) in
    let parsed = subst (λ l. ParsesUnsigned 32 10 l c.parse.result) c.in-Ok.ensures.cases.0 c.parse.ensures.value.0 in
    number_there word c.parse.result c.ok.result c.ok.ensures.value (number_read word c.parse.result first parsed)
