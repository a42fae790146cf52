-- From the making to the look after the last call.
-- Assumes nothing.
use Rattle.std.proofs.Common.{◌≡◌, ℕ, ◌-◌, ◌/◌, ◌≤◌, min, Bool, true, List, length, take, ℤ, IfOk, Ok, Err, Result, subst, arith}
use Rattle.std.proofs.lemmas.Bool.{leb-true}
use Rattle.plan.specs.Questions.{plan_answer}
use Rattle.plan.specs.Scheme.{Scheme, sent_length}
use Rattle.plan.specs.declared.fault.ChainFault.{ChainFault}
use Rattle.scrambler.specs.Meaning.{Bounded}
use Rattle.score.specs.Blocks.{value_at}
use Rattle.score.specs.Scale.{Scale, Lawful}
use Rattle.search.specs.Looking.{Found, Lengths}
use Rattle.receiver.specs.Calls.{view_fits, lent_enough, making_answer}
use Rattle.receiver.specs.Views.{View}
use Rattle.replay.specs.declared.call.Call.{Call}
use Rattle.replay.specs.Given.{given}
use Rattle.replay.specs.Ledger.{lent_of, ledger}
use Rattle.replay.specs.Promise.{Promise}
use Rattle.replay.proofs.Kept.{yes_then}
use Rattle.replay.proofs.Returned.{promised}

-- a receiver that was made has a scrambler that fits, and a value for each location
pub making_yes : (v : View) (lent : ℕ) → making_answer v lent ≡ 0 → (view_fits v ≡ true) × (sent_length v.scheme ≤ lent)
making_yes v lent e =
    let fits = yes_then (view_fits v) 10 _ e in
    let long = yes_then (lent_enough v.scheme lent) 12 0 fits.1 in
    (fits.0, leb-true _ _ long.0)

-- what was made, where the call made it
pub made_of : {X E : Type 0} (r : Result X E) (x : X) (P : X → Type 0) → r ≡ Ok x → IfOk r P → P x
made_of r x P e h = subst (λ q. IfOk q P) e h

-- a look that is lent everything is lent what was given
pub lent_whole : {S : Type 0} (memory now_memory : List ℤ) (block now_block : List ℕ) (scores now_scores : List S) (marks now_marks : List ℕ) →
    length now_memory ≡ length memory → length now_block ≡ length block → length now_scores ≡ length scores → length now_marks ≡ length marks →
    lent_of (given now_memory now_block now_scores now_marks)
    (record { memory = length now_memory; block = length now_block; old = length now_scores; new = length now_scores; marks = length now_marks })
    ≡ given memory block scores marks
lent_whole memory now_memory block now_block scores now_scores marks now_marks p q r s =
    let values : min (length now_memory) (length now_memory) ≡ length memory = omega arith in
    let bytes : min (length now_block) (length now_block) ≡ length block = omega arith in
    let old : min (length now_scores) (length now_scores / 2) ≡ length scores / 2 = omega arith in
    let new : min (length now_scores) (length now_scores - length now_scores / 2) ≡ length scores - length scores / 2 = omega arith in
    let kept : min (length now_marks) (length now_marks) ≡ length marks = omega arith in
    λ x. record { values = values x; block = bytes x; old = old x; new = new x; marks = kept x }

-- what the look found in the memory is promised of the list
pub promise_made : {S : Type 0} (k : Scale S) → Lawful k → (v : View) → plan_answer v.scheme ≡ 0 → Bounded v.meaning → view_fits v ≡ true →
    (whole : Lengths) (calls : List Call) (r : Result S ChainFault) (s : Scheme) (memory : List ℤ) (u : ℕ → Bool) →
    s ≡ v.scheme → take (sent_length v.scheme) memory ≡ ledger v whole calls →
    IfOk r (λ score. Found k s (value_at (take (sent_length s) memory)) u score) → IfOk r (λ score. Promise k v whole calls u score)
promise_made k lawful v ok bounded fit whole calls (Ok score) s memory u same front found =
    promised v ok bounded fit whole calls k lawful u score
    (subst (λ l. Found k v.scheme (value_at l) u score) front (subst (λ t. Found k t (value_at (take (sent_length t) memory)) u score) same found))
promise_made k lawful v ok bounded fit whole calls (Err fault) s memory u same front found = tt
