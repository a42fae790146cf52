-- The memory that is lent holds the ledger in front, and past it what it held.
-- Assumes nothing.
use Rattle.std.proofs.Common.{◌≡◌, ℕ, suc, ◌+◌, ◌<◌, ◌≤◌, min, Bool, true, false, cond, not, eqb, ltb, List, [], ◌∷◌, ◌++◌, length, get_or, take, drop, replicate, ℤ, pos, is_ok, Ok, Err, Result, sym, refl, ap, ◌∙◌, arith}
use Rattle.std.proofs.lemmas.List.{length-take-le, length-replicate, get_or-replicate, drop-set-lt, same_lists, take-append-drop}
use Rattle.std.proofs.lemmas.Bool.{and_parts, cond_both, eqb-true, eq-eqb, ne_eqb, false≢true, leb-true, ltb-true}
use Rattle.plan.specs.Faults.{chain_number, outcome}
use Rattle.plan.specs.declared.fault.ChainFault.{ChainFault}
use Rattle.plan.specs.Scheme.{Scheme, sent_length}
use Rattle.plan.proofs.Facts.{Facts}
use Rattle.sender.specs.Transmission.{symbols}
use Rattle.sender.proofs.Outcomes.{accepted as ok_said}
use Rattle.search.specs.Looking.{Lengths, long_enough, search_answer}
use Rattle.receiver.specs.Calls.{view_fits, lent_enough, note_fits, hear_answer, note_answer, blank_answer}
use Rattle.receiver.specs.Values.{with_values, after_making}
use Rattle.receiver.specs.Views.{View}
use Rattle.replay.specs.declared.call.Call.{Call}
use Rattle.replay.specs.declared.call.Call.TheVariants.{Hear, Note, Blank, Look}
use Rattle.replay.specs.Ledger.{lent_of, values_lent, answer, accepted, changed, after, after_all, ledger}
use Rattle.replay.proofs.Loaded.{symbol_ends}
use Rattle.replay.proofs.Stretches.{take_of_set, with_long, with_inside, with_front, with_rest}

-- a yes, and the questions after it
pub yes_then : (b : Bool) (n rest : ℕ) → cond (not b) (suc n) rest ≡ 0 → (b ≡ true) × (rest ≡ 0)
yes_then true n rest e = (refl, e)
yes_then false n rest e = absurd (omega arith)

pub yes_only : (b : Bool) → ◌≡◌ {A = ℕ} (cond b 0 13) 0 → b ≡ true
yes_only true e = refl
yes_only false e = absurd (omega arith)

-- a call is accepted where its number is 0
said_by : {X : Type 0} (r : Result X ChainFault) (n : ℕ) → outcome chain_number r ≡ n → is_ok r ≡ eqb n 0
said_by (Ok x) n e = sym (eq-eqb n 0 (sym e))
said_by (Err fault) n e = sym (ap (λ m. eqb m 0) (sym e) ∙ ne_eqb (chain_number fault) 0 (λ z. false≢true (ok_said {X = ℕ} (Err fault) z)))

-- an accepted call is lent a value for each location, and its place exists
pub hear_yes : (v : View) (lent place index weight : ℕ) → hear_answer v lent place index weight ≡ 0 → (sent_length v.scheme ≤ lent) × (place < symbols v.scheme)
hear_yes v lent place index weight e =
    let fits = yes_then (view_fits v) 10 _ e in
    let long = yes_then (lent_enough v.scheme lent) 12 _ fits.1 in
    let there = yes_then (ltb place (symbols v.scheme)) 13 _ long.1 in
    (leb-true _ _ long.0, ltb-true _ _ there.0)

pub note_yes : (s : Scheme) (lent location : ℕ) (value : ℤ) → note_answer s lent location value ≡ 0 → (sent_length s ≤ lent) × (location < sent_length s)
note_yes s lent location value e =
    let long = yes_then (lent_enough s lent) 12 _ e in
    let fits = yes_then (note_fits s location value) 16 0 long.1 in
    (leb-true _ _ long.0, ltb-true _ _ (and_parts _ _ fits.0).0)

pub blank_yes : (s : Scheme) (lent place : ℕ) → blank_answer s lent place ≡ 0 → (sent_length s ≤ lent) × (place < symbols s)
blank_yes s lent place e =
    let long = yes_then (lent_enough s lent) 12 _ e in
    let there = yes_then (ltb place (symbols s)) 13 0 long.1 in
    (leb-true _ _ long.0, ltb-true _ _ there.0)

pub look_yes : (s : Scheme) (l : Lengths) → search_answer s l ≡ 0 → sent_length s ≤ l.values
look_yes s l e = leb-true _ _ (and_parts _ _ (and_parts _ _ (and_parts _ _ (and_parts _ _ (yes_only (long_enough s l) e)).0).0).0).0

-- the part that a call is lent is as long as it is lent
pub part_long : {X : Type 0} (n lent : ℕ) (memory : List X) → n ≡ min lent (length memory) → length (take n memory) ≡ min lent (length memory)
part_long n lent memory e = length-take-le n memory (omega arith) ∙ e

module _ (v : View) (f : Facts v.scheme) (whole : Lengths) where
  abbrev locations : ℕ
  locations = sent_length v.scheme

  -- the front of a memory changes as the memory does
  changed_front : (c : Call) (n : ℕ) (memory : List ℤ) → take n (changed v whole c memory) ≡ changed v whole c (take n memory)
  changed_front (Hear lent place index weight) n memory = with_front _ _ memory v.scheme.bits n
  changed_front (Note lent location value) n memory = take_of_set n location memory value
  changed_front (Blank lent place) n memory = with_front _ _ memory v.scheme.bits n
  changed_front (Look lent) n memory = refl

  -- what lies past the locations stays
  changed_rest : (c : Call) (n : ℕ) (memory : List ℤ) → answer v whole c ≡ 0 → locations ≤ n → drop n (changed v whole c memory) ≡ drop n memory
  changed_rest (Hear lent place index weight) n memory e h =
      with_rest _ _ memory v.scheme.bits n (omega (arith, symbol_ends v.scheme f place (hear_yes v _ place index weight e).1))
  changed_rest (Note lent location value) n memory e h =
      drop-set-lt n memory location value (omega (arith, (note_yes v.scheme _ location value e).1))
  changed_rest (Blank lent place) n memory e h =
      with_rest _ _ memory v.scheme.bits n (omega (arith, symbol_ends v.scheme f place (blank_yes v.scheme _ place e).1))
  changed_rest (Look lent) n memory e h = refl

  after_front : (c : Call) (n : ℕ) (memory : List ℤ) → take n (after v whole c memory) ≡ after v whole c (take n memory)
  after_front c n memory =
      elim (accepted v whole c) as (λ b. take n (cond b (changed v whole c memory) memory) ≡ cond b (changed v whole c (take n memory)) (take n memory)) [ true ↦ changed_front c n memory | false ↦ refl ]

  after_rest : (c : Call) (n : ℕ) (memory : List ℤ) → locations ≤ n → drop n (after v whole c memory) ≡ drop n memory
  after_rest c n memory h = cond_both (accepted v whole c) _ _ (λ l. drop n l ≡ drop n memory) (λ t. changed_rest c n memory (eqb-true (answer v whole c) 0 t) h) (λ _. refl)

  lent_front : (c : Call) (n : ℕ) (memory front : List ℤ) → answer v whole c ≡ 0 → locations ≤ n → front ≡ changed v whole c (take n memory) → front ++ drop n memory ≡ changed v whole c memory
  lent_front c n memory front e h is =
      (λ x. (is ∙ sym (changed_front c n memory)) x ++ sym (changed_rest c n memory e h) x) ∙ take-append-drop n (changed v whole c memory)

  -- an accepted call is lent a value for each location
  lent_yes : (c : Call) → answer v whole c ≡ 0 → locations ≤ min (values_lent c) whole.values
  lent_yes (Hear lent place index weight) e = (hear_yes v _ place index weight e).0
  lent_yes (Note lent location value) e = (note_yes v.scheme _ location value e).0
  lent_yes (Blank lent place) e = (blank_yes v.scheme _ place e).0
  lent_yes (Look lent) e = look_yes v.scheme (lent_of whole lent) e

  -- a call that is lent the first n values: they change where it is accepted, and the rest stays
  pub lent_back : {X : Type 0} (c : Call) (r : Result X ChainFault) (n : ℕ) (memory front : List ℤ) → n ≡ min (values_lent c) whole.values → outcome chain_number r ≡ answer v whole c → front ≡ cond (is_ok r) (changed v whole c (take n memory)) (take n memory) → front ++ drop n memory ≡ cond (is_ok r) (changed v whole c memory) memory
  lent_back c (Ok x) n memory front long e is = lent_front c n memory front (sym e) (omega (arith, lent_yes c (sym e))) is
  lent_back c (Err fault) n memory front long e is = ap (λ l. l ++ drop n memory) is ∙ take-append-drop n memory

  -- and so the whole memory is as after the call
  pub lent_after : {X : Type 0} (c : Call) (r : Result X ChainFault) (n : ℕ) (memory front : List ℤ) → n ≡ min (values_lent c) whole.values → outcome chain_number r ≡ answer v whole c → front ≡ cond (is_ok r) (changed v whole c (take n memory)) (take n memory) → front ++ drop n memory ≡ after v whole c memory
  lent_after {X} c r n memory front long e is = lent_back c r n memory front long e is ∙ ap (λ b. cond b (changed v whole c memory) memory) (said_by r (answer v whole c) e)

  all_front : (calls : List Call) (n : ℕ) (memory : List ℤ) → take n (after_all v whole calls memory) ≡ after_all v whole calls (take n memory)
  all_front [] n memory = refl
  all_front (c ∷ cs) n memory = all_front cs n (after v whole c memory) ∙ ap (after_all v whole cs) (after_front c n memory)

  all_rest : (calls : List Call) (n : ℕ) (memory : List ℤ) → locations ≤ n → drop n (after_all v whole calls memory) ≡ drop n memory
  all_rest [] n memory h = refl
  all_rest (c ∷ cs) n memory h = all_rest cs n (after v whole c memory) h ∙ after_rest c n memory h

  -- after the making every value is 0
  made_front : (memory : List ℤ) → locations ≤ length memory → take locations (after_making v.scheme memory) ≡ replicate locations (pos 0)
  made_front memory h =
      let n = locations in
      let long = length-take-le n memory h in
      with_front 0 (λ _. pos 0) memory n n
      ∙ same_lists _ (replicate n (pos 0)) (with_long 0 (λ _. pos 0) (take n memory) n ∙ long ∙ sym (length-replicate n (pos 0)))
      (λ k d lt. let below : k < n = omega (arith, with_long 0 (λ _. pos 0) (take n memory) n) in
      ap (λ j. get_or (with_values (take n memory) 0 (λ _. pos 0) n) j d) (let z : k ≡ 0 + k = omega arith in z)
      ∙ with_inside 0 (λ _. pos 0) (take n memory) n k d below (omega arith) ∙ sym (get_or-replicate n k (pos 0) d below))

  made_rest : (memory : List ℤ) → drop locations (after_making v.scheme memory) ≡ drop locations memory
  made_rest memory = with_rest 0 (λ _. pos 0) memory locations locations (omega arith)

  -- made, and then called: the ledger in front, the rest as it was
  pub ledger_front : (calls : List Call) (memory now : List ℤ) → locations ≤ length memory → now ≡ after_all v whole calls (after_making v.scheme memory) → take locations now ≡ ledger v whole calls
  unfolding ledger
  ledger_front calls memory now h is =
      ap (take locations) is ∙ all_front calls locations (after_making v.scheme memory) ∙ ap (after_all v whole calls) (made_front memory h)

  pub ledger_rest : (calls : List Call) (memory now : List ℤ) → now ≡ after_all v whole calls (after_making v.scheme memory) → drop locations now ≡ drop locations memory
  ledger_rest calls memory now is = ap (drop locations) is ∙ all_rest calls locations (after_making v.scheme memory) (omega arith) ∙ made_rest memory
