use Rattle.std.proofs.Common.{[], ◌∷◌, codes, sym, subst, ◌∙◌}
use Rattle.std.specs.Fmt.{decimal, signed_decimal}
use Rattle.entries.specs.Readings.{EntryReading}
use Rattle.entries.specs.Words.{words}
use Rattle.entries.proofs.Telling.{no_note, first_is, rest_is}
use Rattle.entries.proofs.reading.read_note.Goals as goal

pub returns-in_err-read_value : goal.returns-in_err-read_value
returns-in_err-read_value c =
    let location = c.in_ok-location.location.now in
    let value = c.in_ok-location.value.now in
    subst (EntryReading (codes "note" ∷ words c.args.rest.now)) (sym c.from_residual-in_err-read_value.ensures)
    (no_note (words c.args.rest.now)
    (λ l v r e. c.in_err-read_value.ensures v r.1 r.2 (sym (first_is value (signed_decimal v) [] [] (rest_is location (decimal l) (value ∷ []) (signed_decimal v ∷ []) (sym c.in_ok-location.ensures ∙ e))))))
