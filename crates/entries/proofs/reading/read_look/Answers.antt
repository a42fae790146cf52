use Rattle.std.proofs.Common.{length, sym, ap, ◌∙◌, arith}
use Rattle.entries.specs.Words.{words}
use Rattle.entries.proofs.Telling.{no_look}
use Rattle.entries.proofs.reading.read_look.Goals as goal

pub returns-in-Some : goal.returns-in-Some
returns-in-Some c = no_look (words c.args.rest.now) (λ none. absurd (omega (arith, ap length (sym c.in-Some.ensures ∙ none))))
