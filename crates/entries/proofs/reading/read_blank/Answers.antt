use Rattle.std.proofs.Common.{◌∷◌, codes, sym, subst}
use Rattle.std.specs.Fmt.{decimal}
use Rattle.entries.specs.Readings.{EntryReading}
use Rattle.entries.specs.Words.{words}
use Rattle.entries.proofs.Telling.{no_blank}
use Rattle.entries.proofs.reading.read_blank.Goals as goal

pub returns-in_err-word : goal.returns-in_err-word
returns-in_err-word c =
    subst (EntryReading (codes "blank" ∷ words c.args.rest.now)) (sym c.from_residual.ensures)
    (no_blank (words c.args.rest.now) (λ p small. c.in_err-word.ensures (decimal p)))
