-- What a command leaves, by what the call behind it answered.
-- Assumes nothing.
use Rattle.std.proofs.Common.{◌≡◌, ℕ, false, cond, eqb, List, ℤ, is_ok, Some, Ok, Err, vec_items, Option, Result, sym, ap, ◌∙◌}
use Rattle.std.specs.Option.{option_map}
use Rattle.std.proofs.lemmas.Bool.{eq-eqb, ne_eqb, cond-true, cond-false, false≢true}
use Rattle.plan.specs.Faults.{chain_number, outcome}
use Rattle.plan.specs.Scheme.{Scheme}
use Rattle.plan.specs.declared.fault.ChainFault.{ChainFault}
use Rattle.lines.specs.declared.command.Command.{Command}
use Rattle.receiver.specs.Receivers.{view_of}
use Rattle.receiver.specs.Views.{View}
use Rattle.receiver.specs.declared.receiver.Receiver.{Receiver}
use Rattle.scrambler.specs.Meanings.{table_meaning}
use Rattle.scrambler.specs.declared.table.Table.{Table}
use Rattle.sender.proofs.Outcomes.{accepted as accepted_is_ok}
use Rattle.session.specs.Held.{Held, asked, with_call, answer, accepted, after}
use Rattle.session.specs.Sessions.{held}
use Rattle.session.specs.declared.session.Session.{Session}

-- a fault has a number of its own, and not that of an accepted call
pub fault_not_zero : (f : ChainFault) → eqb (chain_number f) 0 ≡ false
fault_not_zero f = ne_eqb (chain_number f) 0 (λ e. false≢true (accepted_is_ok {X = ℕ} (Err f) e))

-- a refused command leaves what is held
pub refused_keeps : (h : Held) (c : Command) (f : ChainFault) → chain_number f ≡ answer h c → h ≡ after h c
refused_keeps h c f e = sym (cond-false _ _ _ (ap (λ n. eqb n 0) (sym e) ∙ fault_not_zero f))

-- an accepted one leaves what it should
pub accepted_changes : (h : Held) (c : Command) → 0 ≡ answer h c → accepted h c ≡ after h c
accepted_changes h c e = sym (cond-true _ _ _ (eq-eqb (answer h c) 0 (sym e)))

-- what is there answers
pub answers_there : {X Y : Type 0} (view : X → Y) (o : Option X) (x : X) (number : Y → ℕ) → o ≡ Some x → number (view x) ≡ asked (option_map view o) number
answers_there view o x number is = ap (λ p. asked (option_map view p) number) (sym is)

abbrev pub holding : Option Scheme → Option View → List ℤ → Held
holding plan receiver values = record { plan = plan; receiver = receiver; values = values }

-- a receiver whose scrambler is a table
abbrev TableReceiver : Type 0
TableReceiver = Receiver Table (record { meaning = table_meaning })

abbrev view : TableReceiver → View
view r = view_of table_meaning r

-- what a call of the receiver answers and leaves, as the session sees it
pub record Called (s : Session) (y : TableReceiver) (left : List ℤ) (number : View → List ℤ → ℕ) (f : View → List ℤ → List ℤ) (answered : ℕ) : Type 0 where
  pub answer : answered ≡ asked (held s).receiver (λ v. number v (held s).values)
  pub after : holding (held s).plan (Some (view y)) left
      ≡ cond (eqb (asked (held s).receiver (λ v. number v (held s).values)) 0) (with_call (held s) (held s).receiver (λ v. f v (held s).values)) (held s)

module _ (plan : Option Scheme) (x y : TableReceiver) (values left : List ℤ) (kept : view y ≡ view x) (n : ℕ) (changed : List ℤ) where
  left_by : {R : Type 0} (r : Result R ChainFault) → outcome chain_number r ≡ n → left ≡ cond (is_ok r) changed values →
      holding plan (Some (view y)) left ≡ cond (eqb n 0) (holding plan (Some (view x)) changed) (holding plan (Some (view x)) values)
  left_by (Ok u) answered now = (λ i. holding plan (Some (kept i)) (now i)) ∙ sym (cond-true _ _ _ (eq-eqb n 0 (sym answered)))
  left_by (Err e) answered now =
      (λ i. holding plan (Some (kept i)) (now i)) ∙ sym (cond-false _ _ _ (ap (λ m. eqb m 0) (sym answered) ∙ fault_not_zero e))

pub called : (s : Session) (x y : TableReceiver) (lent left : List ℤ) → s.receiver ≡ Some x → view y ≡ view x → lent ≡ vec_items s.memory →
    (number : View → List ℤ → ℕ) (f : View → List ℤ → List ℤ) {R : Type 0} (r : Result R ChainFault) →
    outcome chain_number r ≡ number (view x) lent → left ≡ cond (is_ok r) (f (view x) lent) lent → Called s y left number f (outcome chain_number r)
called s x y lent left is kept same number f r answered now =
    let values = vec_items s.memory in
    let plan = (held s).plan in
    let n : outcome chain_number r ≡ number (view x) values = answered ∙ ap (number (view x)) same in
    record {
      answer = n ∙ answers_there view s.receiver x (λ v. number v values) is;
      after =
          left_by plan x y values left kept (number (view x) values) (f (view x) values) r n (now ∙ ap (λ l. cond (is_ok r) (f (view x) l) l) same)
          ∙ ap (λ o. cond (eqb (asked (option_map view o) (λ v. number v values)) 0) (with_call (holding plan (option_map view o) values) (option_map view o) (λ v. f v values)) (holding plan (option_map view o) values)) (sym is);
    }
