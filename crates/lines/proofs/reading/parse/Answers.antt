use Rattle.std.proofs.Common.{◌≡◌, ℕ, ◌-◌, ◌<◌, ◌≤◌, List, length, get_or, take, drop, vec_items, arith, rules}
use Rattle.std.proofs.lemmas.Slice.{first_rest}
use Rattle.std.proofs.lemmas.Result.{err_from_is_err_and}
use Rattle.lines.specs.Commands.{Writes}
use Rattle.lines.specs.Hex.{hex, Bytes}
use Rattle.lines.specs.declared.command.Command.{Command}
use Rattle.lines.proofs.Parsed.{refuses_from, digits_from, line_from}
use Rattle.lines.proofs.reading.parse.Goals as goal

pub returns-in_err-bytes : goal.returns-in_err-bytes
returns-in_err-bytes c =
    let p = err_from_is_err_and c.from_residual.result c.from_residual.ensures.1 in
    let line = c.args.line.now in
    let rest = take (length line - 1) (drop 1 line) in
    let some : 0 < length line = search rules in
    rw (p.1, p.2) (refuses_from ((bs : List ℕ) × Bytes bs × (hex bs ≡ rest)) ((x : Command) × Writes x line) c.in_err-bytes.field-0.0
    (digits_from line rest (get_or line 0 0) (first_rest line 0 some)) c.in_err-bytes.ensures)

pub returns : goal.returns
returns c =
    let line = c.args.line.now in
    let some : 0 < length line = search rules in
    let short : length line ≤ 2080 = omega arith in
    line_from line (take (length line - 1) (drop 1 line)) (get_or line 0 0) (first_rest line 0 some)
    (vec_items c.in_ok-bytes.bytes) c.read_command.result short c.in_ok-bytes.ensures.0 c.in_ok-bytes.ensures.1 c.read_command.ensures
