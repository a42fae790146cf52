-- Taking an entry, by what the call behind it answered.
-- Assumes nothing.
use Rattle.std.proofs.Common.{◌≡◌, ℕ, min, Bool, true, false, cond, eqb, List, [], ◌∷◌, ◌++◌, length, get_or, take, ℤ, is_ok, IfOk, Ok, Option, Result, sym, refl, ap, ◌∙◌, arith}
use Rattle.std.proofs.lemmas.List.{take_all, drop_all, append-nil}
use Rattle.code.specs.Numbers.{bits_of, digit}
use Rattle.entries.specs.declared.entry.Entry.{Entry}
use Rattle.plan.specs.Faults.{chain_number, outcome}
use Rattle.plan.specs.Questions.{plan_answer}
use Rattle.plan.specs.Scheme.{sent_length}
use Rattle.plan.specs.declared.fault.ChainFault.{ChainFault}
use Rattle.plan.proofs.Facts.{Facts}
use Rattle.receiver.specs.Calls.{view_fits}
use Rattle.receiver.specs.Values.{after_making}
use Rattle.receiver.specs.Views.{View}
use Rattle.replay.specs.declared.call.Call.{Call}
use Rattle.replay.specs.Ledger.{lent_of, values_lent, answer, changed, after, after_all, ledger}
use Rattle.replay.proofs.Kept.{lent_after, ledger_front}
use Rattle.replay.proofs.Whole.{promise_made}
use Rattle.scrambler.specs.Meaning.{Bounded}
use Rattle.score.specs.Blocks.{value_at}
use Rattle.score.specs.Scale.{Scale, Lawful}
use Rattle.search.specs.Looking.{Found, Lengths, shown}
use Rattle.search.specs.Searching.{memory, steps}
use Rattle.trellis.specs.Choice.{picked}
use Rattle.trellis.proofs.Written.{overwritten_at, overwritten_length}
use Rattle.reception.specs.Taking.{call_of, Shows, Replies, Takes}

module _ (v : View) (whole : Lengths) where
  -- one call more
  pub after_push : (calls : List Call) (c : Call) (values : List ℤ) → after_all v whole (calls ++ (c ∷ [])) values ≡ after v whole c (after_all v whole calls values)
  after_push [] c values = refl
  after_push (b ∷ bs) c values = after_push bs c (after v whole b values)

  pub ledger_push : (calls : List Call) (c : Call) → ledger v whole (calls ++ (c ∷ [])) ≡ after v whole c (ledger v whole calls)
  unfolding ledger
  ledger_push calls c = after_push calls c _

  -- a call that is lent every value
  pub whole_after : {X : Type 0} → Facts v.scheme → (c : Call) (r : Result X ChainFault) (values left : List ℤ) → length values ≡ min (values_lent c) whole.values →
      outcome chain_number r ≡ answer v whole c → left ≡ cond (is_ok r) (changed v whole c values) values → left ≡ after v whole c values
  whole_after f c r values left long e is =
      let n = length values in
      let all = take_all n values (omega arith) in
      sym (append-nil left) ∙ ap (λ l. left ++ l) (sym (drop_all n values (omega arith)))
      ∙ lent_after v f whole c r n values left long e (is ∙ ap (λ l. cond (is_ok r) (changed v whole c l) l) (sym all))

  module _ {S : Type 0} (k : Scale S) where
    -- by what it answers, leaves and shows, and so what becomes of a ledger
    pub taken : (values left : List ℤ) (e : Entry) (r : Result (Option S) ChainFault) (block : List ℕ) → outcome chain_number r ≡ answer v whole (call_of whole e) →
        left ≡ after v whole (call_of whole e) values → IfOk r (λ o. Replies k v whole left block e o) → Takes k v whole values e r left block
    taken values left e r block said now reply = record {
      answer = said;
      after = now;
      ledger = λ calls is. now ∙ ap (after v whole (call_of whole e)) is ∙ sym (ledger_push calls (call_of whole e));
      reply = reply;
    }

  -- a look is lent all there is
  pub same_lent : lent_of whole (record { memory = whole.values; block = whole.block; old = whole.old; new = whole.new; marks = whole.marks }) ≡ whole
  same_lent =
      let a : min whole.values whole.values ≡ whole.values = omega arith in
      let b : min whole.block whole.block ≡ whole.block = omega arith in
      let c : min whole.old whole.old ≡ whole.old = omega arith in
      let d : min whole.new whole.new ≡ whole.new = omega arith in
      let e : min whole.marks whole.marks ≡ whole.marks = omega arith in
      λ i. record { values = a i; block = b i; old = c i; new = d i; marks = e i }

digit_same : (b : Bool) → digit b ≡ digit (eqb (digit b) 1)
digit_same true = refl
digit_same false = refl

-- the block that a look wrote is shown
pub block_shows : {S : Type 0} (k : Scale S) → Lawful k → (v : View) → plan_answer v.scheme ≡ 0 → Bounded v.meaning → view_fits v ≡ true → (whole : Lengths) (values : List ℤ) (before now : List ℕ) (score : S) →
    length values ≡ sent_length v.scheme → length before ≡ v.scheme.block → Found k v.scheme (value_at (take (sent_length v.scheme) values)) (bits_of now) score →
    now ≡ shown k v.scheme (value_at (take (sent_length v.scheme) values)) before → Shows k v whole values now score
block_shows k lawful v ok bounded fit whole values before now score locations bits found is =
    let p = picked (steps k v.scheme (value_at (take (sent_length v.scheme) values))) (memory v.scheme) v.scheme.block in
    record {
      long = ap length is ∙ overwritten_length v.scheme.block _ before ∙ bits;
      bits = λ i lt. let e = ap (λ l. get_or l i 0) is ∙ overwritten_at v.scheme.block p before i lt (omega arith) in e ∙ digit_same (p i) ∙ ap (λ n. digit (eqb n 1)) (sym e);
      promise = λ calls held. promise_made k lawful v ok bounded fit whole calls (Ok score) v.scheme values (bits_of now) refl (take_all (sent_length v.scheme) values (omega arith) ∙ held) found;
    }

-- where a receiver is made, the values are the ledger of no calls
pub made_ledger : (v made : View) → Facts made.scheme → v ≡ made → (whole : Lengths) (memory now held : List ℤ) → length memory ≡ sent_length made.scheme → length now ≡ length memory →
    now ≡ after_making made.scheme memory → held ≡ now → held ≡ ledger v whole []
made_ledger v made f same whole memory now held long kept is e =
    e ∙ sym (take_all (sent_length made.scheme) now (omega arith)) ∙ ledger_front made f whole [] memory now (omega arith) is ∙ ap (λ w. ledger w whole []) (sym same)
