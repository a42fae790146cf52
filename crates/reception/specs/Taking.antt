-- What taking an entry answers, leaves and shows.
-- Assumes nothing.
use Rattle.std.specs.Prelude.{◌≡◌, ℕ, ◌<◌, List, [], ◌∷◌, ◌++◌, ℤ, length, IfOk, Some, None, Option, Result, slice_index}
use Rattle.code.specs.Numbers.{bits_of, digit}
use Rattle.entries.specs.declared.entry.Entry.{Entry}
use Rattle.entries.specs.declared.entry.Entry.TheVariants.{Hear, Note, Blank, Look}
use Rattle.plan.specs.Faults.{chain_number, outcome}
use Rattle.plan.specs.declared.fault.ChainFault.{ChainFault}
use Rattle.receiver.specs.Views.{View}
use Rattle.replay.specs.declared.call.Call.{Call}
use Rattle.replay.specs.declared.call.Call.TheVariants.{Hear as HearCall, Note as NoteCall, Blank as BlankCall, Look as LookCall}
use Rattle.replay.specs.Ledger.{answer, after, ledger}
use Rattle.replay.specs.Promise.{Promise}
use Rattle.score.specs.Scale.{Scale}
use Rattle.search.specs.Looking.{Lengths}

-- the call that an entry asks for, lent all that there is
abbrev pub call_of : Lengths → Entry → Call
call_of whole (Hear place index weight) = HearCall whole.values place index weight
call_of whole (Note location value) = NoteCall whole.values location value
call_of whole (Blank place) = BlankCall whole.values place
call_of whole Look = LookCall (record { memory = whole.values; block = whole.block; old = whole.old; new = whole.new; marks = whole.marks })

-- a block of the scheme's length, each byte 0 or 1, that is promised with this score of every list of calls whose ledger the values are
pub record Shows {S : Type 0} (k : Scale S) (v : View) (whole : Lengths) (values : List ℤ) (block : List ℕ) (score : S) : Type 0 where
  pub long : length block ≡ v.scheme.block
  pub bits : (i : ℕ) → i < v.scheme.block → slice_index block i ≡ digit (bits_of block i)
  pub promise : (calls : List Call) → values ≡ ledger v whole calls → Promise k v whole calls (bits_of block) score

-- a look shows the best block, every other entry nothing
abbrev pub Replies : {S : Type 0} → Scale S → View → Lengths → List ℤ → List ℕ → Entry → Option S → Type 0
Replies k v whole values block Look (Some score) = Shows k v whole values block score
Replies k v whole values block Look None = ⊥
Replies k v whole values block (Hear place index weight) reply = reply ≡ None
Replies k v whole values block (Note location value) reply = reply ≡ None
Replies k v whole values block (Blank place) reply = reply ≡ None

pub record Takes {S : Type 0} (k : Scale S) (v : View) (whole : Lengths) (values : List ℤ) (e : Entry) (r : Result (Option S) ChainFault) (left : List ℤ) (block : List ℕ) : Type 0 where
  -- the entry is answered as its call is
  pub answer : outcome chain_number r ≡ answer v whole (call_of whole e)
  -- and leaves the values as its call does: a refused one and a look change none
  pub after : left ≡ after v whole (call_of whole e) values
  -- the ledger of some calls becomes the ledger of these and this one
  pub ledger : (calls : List Call) → values ≡ ledger v whole calls → left ≡ ledger v whole (calls ++ (call_of whole e ∷ []))
  pub reply : IfOk r (λ shown. Replies k v whole left block e shown)
