-- A transmission of which every symbol was last heard exactly comes back.
-- Assumes nothing.
use Rattle.std.proofs.Common.{◌≡◌, ℕ, ◌+◌, ◌*◌, ◌/◌, ◌%◌, ◌<◌, Bool, true, false, not, ◌⊎◌, List, map, ℤ, sym, refl, ap, ◌∙◌, subst, inl, inr, ⊎_elim, arith}
use Rattle.std.specs.List.{range_with_len}
use Rattle.std.proofs.lemmas.Nat.{mod_below}
use Rattle.std.proofs.lemmas.List.FromFn.{length-map-range_with_len, get_or-map-range_with_len, fill_by_all}
use Rattle.std.proofs.lemmas.Bool.{true≢false, and_parts, not-true}
use Rattle.plan.specs.Questions.{plan_answer}
use Rattle.plan.specs.Scheme.{Scheme, sent_length}
use Rattle.plan.proofs.Facts.{Facts, facts}
use Rattle.code.specs.Coding.{mother}
use Rattle.code.specs.Numbers.{read}
use Rattle.code.specs.Sending.{source, location}
use Rattle.code.proofs.Loading.{permutes, location_below, fetch_below}
use Rattle.scrambler.specs.Meaning.{Bounded}
use Rattle.sender.specs.Transmission.{symbols, on_air, sent_array, transmission}
use Rattle.sender.proofs.Groups.{tells_bits}
use Rattle.score.specs.Blocks.{value_at, block_score, contradicted_at, Agrees, Contradicts}
use Rattle.score.specs.Scale.{Scale, Lawful}
use Rattle.score.specs.Values.{contradicted}
use Rattle.score.proofs.BlockLaws.{block_agreed, block_worse}
use Rattle.search.specs.Looking.{Found, Lengths}
use Rattle.receiver.specs.Calls.{view_fits}
use Rattle.receiver.specs.Views.{View}
use Rattle.replay.specs.declared.call.Call.{Call}
use Rattle.replay.specs.Heard.{HeardAll}
use Rattle.replay.specs.Ledger.{ledger}
use Rattle.replay.specs.Promise.{Promise}
use Rattle.replay.proofs.Loaded.{loaded, symbol_there, parts_of}
use Rattle.replay.proofs.Signs.{Says}
use Rattle.replay.proofs.Touching.{shown_in_ledger}

same_or_other : (a b : Bool) → (a ≡ b) ⊎ (a ≡ not b)
same_or_other true true = inl refl
same_or_other true false = inr refl
same_or_other false true = inr refl
same_or_other false false = inl refl

-- lists by the same function of the index
alike : (f g : ℕ → ℕ) (n : ℕ) → ((i : ℕ) → i < n → f i ≡ g i) → map f (range_with_len 0 n) ≡ map g (range_with_len 0 n)
alike f g n e =
    fill_by_all g (map f (range_with_len 0 n)) n 0 (length-map-range_with_len f 0 n)
    (λ k h. get_or-map-range_with_len f 0 n k k 0 h (omega arith) ∙ e k h)

-- each location's value says the bit that the block has there
abbrev Said : Scheme → (ℕ → ℤ) → (ℕ → Bool) → Type 0
Said s values w = (l : ℕ) → l < sent_length s → Says (values l) (read (sent_array s w) l)

module _ (s : Scheme) (f : Facts s) (values : ℕ → ℤ) (w : ℕ → Bool) (said : Said s values w) where
  -- what the block sends is loaded
  sent_there : (u : ℕ → Bool) (n : ℕ) → n < sent_length s → read (sent_array s u) (location s n) ≡ mother s u (source s n)
  sent_there u n h = loaded s f (mother s u) n h

  -- the block that every value says is contradicted nowhere
  agrees : Agrees s values w
  unfolding contradicted_at
  agrees n h = ap (contradicted (values (location s n))) (sym (sent_there w n h)) ∙ (said (location s n) (location_below s f n)).agreed

  -- a block with another bit at some location is contradicted there
  contradicts : (u : ℕ → Bool) (l : ℕ) → l < sent_length s → read (sent_array s u) l ≡ not (read (sent_array s w) l) → Contradicts s values u
  unfolding contradicted_at
  contradicts u l h e =
      let there = (permutes s f).reached l h in
      let n = there.0 in
      let at_l = there.2 in
      let sends : mother s u (source s n) ≡ not (read (sent_array s w) l) = sym (sent_there u n there.1) ∙ ap (read (sent_array s u)) at_l ∙ e in
      (n, there.1, (λ x. contradicted (values (at_l x)) (sends x)) ∙ (said l h).other)

  -- so a block that scores no worse than it has the same bits
  same_bits : {S : Type 0} (k : Scale S) → Lawful k → (u : ℕ → Bool) → k.no_worse (block_score k s values u) (block_score k s values w) ≡ true → (l : ℕ) → l < sent_length s → read (sent_array s u) l ≡ read (sent_array s w) l
  same_bits k lawful u beats l h =
      ⊎_elim (λ same. same)
      (λ other.
      let worse = block_worse k lawful s values f u (contradicts u l h other) in
      let start = block_agreed k lawful s values f w agrees in
      absurd (true≢false (sym beats ∙ ap (k.no_worse (block_score k s values u)) start ∙ not-true _ (and_parts _ _ worse).1)))
      (same_or_other (read (sent_array s u) l) (read (sent_array s w) l))

module _ (v : View) (ok : plan_answer v.scheme ≡ 0) (bounded : Bounded v.meaning) (fit : view_fits v ≡ true) (whole : Lengths) (calls : List Call) where
  said_all : (w : ℕ → Bool) → HeardAll v whole calls w → Said v.scheme (value_at (ledger v whole calls)) w
  said_all w heard l h =
      let f = facts v.scheme ok in
      let q = v.scheme.bits in
      let i = l / q in
      let below = symbol_there v.scheme f l h in
      subst (λ x. Says (value_at (ledger v whole calls) x) (read (sent_array v.scheme w) x)) (sym (parts_of v.scheme f l))
      (shown_in_ledger v ok bounded fit w i below whole calls (heard i below) (l % q) (mod_below l q f.bits_low))

  pub returned : {S : Type 0} (k : Scale S) → Lawful k → (u : ℕ → Bool) (score : S) → Found k v.scheme (value_at (ledger v whole calls)) u score → (w : ℕ → Bool) → HeardAll v whole calls w → transmission v.scheme v.meaning u ≡ transmission v.scheme v.meaning w
  unfolding transmission
  returned k lawful u score found w heard =
      let s = v.scheme in
      let f = facts s ok in
      let values = value_at (ledger v whole calls) in
      let beats = ap (λ x. k.no_worse x (block_score k s values w)) (sym found.scores) ∙ found.beats w in
      let same = same_bits s f values w (said_all w heard) k lawful u beats in
      alike (on_air s v.meaning u) (on_air s v.meaning w) (symbols s)
      (λ i below. (tells_bits s ok v.meaning bounded fit u w i below).1 (λ j h. same (i * s.bits + j) (fetch_below s f i j below h)))

  -- the whole promise of a look that found its block in the ledger
  pub promised : {S : Type 0} (k : Scale S) → Lawful k → (u : ℕ → Bool) (score : S) → Found k v.scheme (value_at (ledger v whole calls)) u score → Promise k v whole calls u score
  promised k lawful u score found = record { best = found; returned = returned k lawful u score found }
