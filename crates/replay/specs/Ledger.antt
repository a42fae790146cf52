-- The ledger: what the values are after a list of calls, by the calls' arguments alone.
-- Assumes nothing.
use Rattle.std.specs.Prelude.{ℕ, min, Bool, cond, List, [], ◌∷◌, map, replicate, ℤ, pos, ◌==◌}
use Rattle.plan.specs.Scheme.{sent_length}
use Rattle.search.specs.Looking.{Lengths, search_answer}
use Rattle.receiver.specs.Calls.{hear_answer, note_answer, blank_answer}
use Rattle.receiver.specs.Values.{after_hear, after_note, after_blank}
use Rattle.receiver.specs.Views.{View}
use Rattle.replay.specs.declared.call.Call.{Call}
use Rattle.replay.specs.declared.call.Call.TheVariants.{Hear, Note, Blank, Look}
use Rattle.replay.specs.declared.call.Lent.{Lent}

-- the lengths that a look is lent: what it says, and at most what there is
abbrev pub lent_of : Lengths → Lent → Lengths
lent_of whole lent = record {
  values = min lent.memory whole.values;
  block = min lent.block whole.block;
  old = min lent.old whole.old;
  new = min lent.new whole.new;
  marks = min lent.marks whole.marks;
}

-- the first values that a call is lent, where there are as many
abbrev pub values_lent : Call → ℕ
values_lent (Hear lent place index weight) = lent
values_lent (Note lent location value) = lent
values_lent (Blank lent place) = lent
values_lent (Look lent) = lent.memory

module _ (v : View) (whole : Lengths) where
  -- what a call of the list answers
  abbrev pub answer : Call → ℕ
  answer (Hear lent place index weight) = hear_answer v (min lent whole.values) place index weight
  answer (Note lent location value) = note_answer v.scheme (min lent whole.values) location value
  answer (Blank lent place) = blank_answer v.scheme (min lent whole.values) place
  answer (Look lent) = search_answer v.scheme (lent_of whole lent)

  -- the call is accepted
  abbrev pub accepted : Call → Bool
  accepted c = answer c == 0

  -- what an accepted call does to the values; a look changes none
  abbrev pub changed : Call → List ℤ → List ℤ
  changed (Hear lent place index weight) values = after_hear v place index weight values
  changed (Note lent location value) values = after_note location value values
  changed (Blank lent place) values = after_blank v.scheme place values
  changed (Look lent) values = values

  -- a refused call changes none
  abbrev pub after : Call → List ℤ → List ℤ
  after c values = cond (accepted c) (changed c values) values

  -- the values after each call in turn
  abbrev pub after_all : List Call → List ℤ → List ℤ
  after_all [] values = values
  after_all (c ∷ cs) values = after_all cs (after c values)

  -- after the making every value is 0
  unfoldable pub ledger : List Call → List ℤ
  ledger calls = after_all calls (replicate (sent_length v.scheme) (pos 0))

  -- what each call of the list answers
  abbrev pub answers : List Call → List ℕ
  answers calls = map answer calls
