use Rattle.std.proofs.Common.{sym}
use Rattle.plan.specs.Parts.{scheme}
use Rattle.rows.specs.Schemes.{entry_scheme}
use Rattle.rows.proofs.Refusals.{not_refused}
use Rattle.rows.proofs.row.Row.plan.Goals as goal

-- the entry's scheme passes every question
pub returns-in_err-new : goal.returns-in_err-new
returns-in_err-new c =
    absurd (not_refused c.in_err-new.field-0.0 (scheme c.in_ok-parts_of.field-0) (entry_scheme c.in-Some.entry c.args.constraint)
    c.in_err-new.ensures.answer c.in_ok-parts_of.ensures.made
    (c.in-Some.ensures.consistent.passes c.args.constraint (sym c.if-not-constraint_fits.ensures)))
