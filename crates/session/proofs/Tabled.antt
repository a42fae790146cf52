-- What a plan and a table answer, by what the calls behind them answered.
-- Assumes nothing.
use Rattle.std.proofs.Common.{◌≡◌, ℕ, Bool, true, false, cond, eqb, length, Some, vec_items, Vec, sym, refl, ap, ◌∙◌, ⊎_elim, arith}
use Rattle.std.specs.Option.{option_map}
use Rattle.std.specs.declared.alloc.Global.{Global}
use Rattle.std.proofs.lemmas.Bool.{cases_Bool, eqb-false}
use Rattle.plan.specs.Faults.{chain_number}
use Rattle.plan.specs.Plans.{plan_scheme}
use Rattle.plan.specs.Questions.{plan_answer}
use Rattle.plan.specs.Scheme.{Scheme}
use Rattle.plan.specs.declared.fault.ChainFault.{ChainFault}
use Rattle.plan.specs.declared.plan.Plan.{Plan}
use Rattle.lines.specs.Plans.{size_fits, plan_line_answer}
use Rattle.lines.specs.declared.command.Command.TheVariants.{Table as TableLine}
use Rattle.receiver.specs.Calls.{making_answer}
use Rattle.receiver.specs.Receivers.{view}
use Rattle.scrambler.specs.Meaning.{Meaning}
use Rattle.scrambler.specs.Questions.{table_fits, making_answer as table_made}
use Rattle.sender.specs.Scrambling.{needed_width}
use Rattle.session.specs.Held.{asked, table_answer, answer}
use Rattle.session.specs.Sessions.{held}
use Rattle.session.specs.declared.session.Session.{Session}
use Rattle.session.proofs.Called.{fault_not_zero}

-- an accepted plan is small
pub accepted_small : (s : Scheme) → 0 ≡ plan_line_answer s → size_fits s ≡ true
accepted_small s e =
    ⊎_elim
    (λ (yes : eqb (plan_answer s) 0 ≡ true). small (size_fits s) (e ∙ ap (λ b. cond b (cond (size_fits s) 0 20) (plan_answer s)) yes))
    (λ (fault : eqb (plan_answer s) 0 ≡ false). absurd (eqb-false (plan_answer s) 0 fault (sym (e ∙ ap (λ b. cond b (cond (size_fits s) 0 20) (plan_answer s)) fault))))
    (cases_Bool (eqb (plan_answer s) 0))
  where
    small : (b : Bool) → ◌≡◌ {A = ℕ} 0 (cond b 0 20) → b ≡ true
    small true e = refl
    small false e = absurd (omega arith)

-- where a table is refused nothing after it is asked
first_no : (b : Bool) (n later : ℕ) → eqb n 0 ≡ false → n ≡ cond b 0 10 → n ≡ cond b later 10
first_no true n later other e = absurd (eqb-false n 0 other e)
first_no false n later other e = e

then_asked : (b : Bool) (later : ℕ) → ◌≡◌ {A = ℕ} 0 (cond b 0 10) → later ≡ cond b later 10
then_asked true later e = refl
then_asked false later e = absurd (omega arith)

module _ (s : Session) (p : Plan) (is : s.plan ≡ Some p) (values : Vec ℕ Global) (width : ℕ) (needed : width ≡ needed_width (plan_scheme p).bits) where
  asked_of_plan : table_answer (plan_scheme p) (vec_items values) (length (vec_items s.memory)) ≡ answer (held s) (TableLine values)
  asked_of_plan = ap (λ o. asked (option_map plan_scheme o) (λ t. table_answer t (vec_items values) (length (vec_items s.memory)))) (sym is)

  pub table_refused : (f : ChainFault) → chain_number f ≡ table_made (table_fits width (vec_items values)) → chain_number f ≡ answer (held s) (TableLine values)
  table_refused f e =
      first_no (table_fits (needed_width (plan_scheme p).bits) (vec_items values)) (chain_number f) _ (fault_not_zero f) (e ∙ ap (λ w. table_made (table_fits w (vec_items values))) needed)
      ∙ asked_of_plan

  -- where the table is made, the receiver's own questions decide
  pub table_made_then : (q : Plan) (m : Meaning) (n lent : ℕ) → 0 ≡ table_made (table_fits width (vec_items values)) → plan_scheme q ≡ plan_scheme p →
      m ≡ record { width = width; values = vec_items values } → lent ≡ length (vec_items s.memory) → n ≡ making_answer (view q m) lent → n ≡ answer (held s) (TableLine values)
  table_made_then q m n lent fits same means long e =
      e
      ∙ (λ i. making_answer (record { scheme = same i; meaning = (means ∙ ap (λ w. record { width = w; values = vec_items values }) needed) i }) (long i))
      ∙ then_asked (table_fits (needed_width (plan_scheme p).bits) (vec_items values)) _ (fits ∙ ap (λ w. table_made (table_fits w (vec_items values))) needed)
      ∙ asked_of_plan
