-- What is kept of a line stands for the whole line.
-- Assumes nothing.
use Rattle.std.proofs.Common.{◌≡◌, ℕ, ◌<◌, ◌≤◌, List, [], ◌∷◌, ◌++◌, length, Ok, Err, Result, sym, ap, ◌∙◌, subst, ⊎_elim, arith, length-take}
use Rattle.std.proofs.lemmas.List.{take_all, take-append-le, length_push}
use Rattle.std.proofs.lemmas.Bool.{cases_lt}
use Rattle.lines.specs.Commands.{Writes}
use Rattle.lines.specs.Inputs.{kept_of}
use Rattle.lines.specs.Readings.{LineReading}
use Rattle.lines.specs.declared.command.Command.{Command}
use Rattle.lines.specs.declared.fault.LineFault.{LineFault}
use Rattle.lines.proofs.Parsed.{refuses_from}

-- a byte that is kept
pub kept_more : (line held : List ℕ) (b : ℕ) → held ≡ kept_of line → length held < 2081 → held ++ (b ∷ []) ≡ kept_of (line ++ (b ∷ []))
kept_more line held b e short =
    let few : length line < 2081 = omega (arith, ap length e, length-take 2081 line) in
    let whole = take_all 2081 line (omega arith) in
    ap (λ l. l ++ (b ∷ [])) (e ∙ whole) ∙ sym (take_all 2081 (line ++ (b ∷ [])) (omega (arith, length_push line b)))

-- a byte that is let go
pub kept_full : (line held : List ℕ) (b : ℕ) → held ≡ kept_of line → 2081 ≤ length held → held ≡ kept_of (line ++ (b ∷ []))
kept_full line held b e long =
    let many : 2081 ≤ length line = omega (arith, ap length e, length-take 2081 line) in
    e ∙ sym (take-append-le 2081 line (b ∷ []) many)

-- a line that is too long is so by what is kept of it
too_long : (line : List ℕ) (r : Result Command LineFault) → 2080 < length line → LineReading (kept_of line) r → LineReading line r
too_long line (Ok c) long h = absurd (omega (arith, h.short, length-take 2081 line))
too_long line (Err e) long h =
    refuses_from ((c : Command) × Writes c (kept_of line)) ((c : Command) × Writes c line) e (λ s. absurd (omega (arith, s.1.short))) h

pub reading_whole : (line : List ℕ) (r : Result Command LineFault) → LineReading (kept_of line) r → LineReading line r
reading_whole line r h =
    ⊎_elim (λ long. too_long line r long h) (λ short. subst (λ l. LineReading l r) (take_all 2081 line (omega arith)) h) (cases_lt 2080 (length line))
