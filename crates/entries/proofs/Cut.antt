-- What is kept of a line tells what the whole line says.
-- Assumes nothing.
use Rattle.std.proofs.Common.{ℕ, ◌<◌, List, length, Some, None, Ok, Err, Option, Result, subst, ⊎_elim, arith, length-take}
use Rattle.std.proofs.lemmas.List.{take_all}
use Rattle.std.proofs.lemmas.Bool.{cases_lt}
use Rattle.lines.specs.Inputs.{kept_of}
use Rattle.lines.specs.declared.fault.LineFault.{LineFault}
use Rattle.entries.specs.Readings.{LineReading}
use Rattle.entries.specs.declared.entry.Entry.{Entry}

too_long : (line : List ℕ) (r : Result (Option Entry) LineFault) → 2080 < length line → LineReading (kept_of line) r → LineReading line r
too_long line (Ok (Some e)) long h = absurd (omega (arith, h.short, length-take 2081 line))
too_long line (Ok None) long h = absurd (omega (arith, h.short, length-take 2081 line))
too_long line (Err fault) long h = (h.0, (λ e w. absurd (omega (arith, w.short))), λ i. absurd (omega (arith, i.short)))

pub reading_whole : (line : List ℕ) (r : Result (Option Entry) LineFault) → LineReading (kept_of line) r → LineReading line r
reading_whole line r h =
    ⊎_elim (λ long. too_long line r long h) (λ short. subst (λ l. LineReading l r) (take_all 2081 line (omega arith)) h) (cases_lt 2080 (length line))
