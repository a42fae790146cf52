-- The calls of a list that have been carried out so far.
-- Assumes nothing.
use Rattle.std.proofs.Common.{◌≡◌, ℕ, ◌+◌, ◌<◌, ◌≤◌, List, [], ◌∷◌, ◌++◌, map, length, get_or, take, drop, ℤ, Result, sym, refl, ap, ◌∙◌}
use Rattle.std.proofs.lemmas.List.{map_push, take_more, take_all}
use Rattle.std.proofs.lemmas.Bool.{cond_both}
use Rattle.plan.specs.Faults.{chain_number, outcome}
use Rattle.plan.specs.declared.fault.ChainFault.{ChainFault}
use Rattle.search.specs.Looking.{Lengths}
use Rattle.receiver.specs.Views.{View}
use Rattle.replay.specs.declared.call.Call.{Call}
use Rattle.replay.specs.declared.call.Call.TheVariants.{Look}
use Rattle.replay.specs.declared.call.Lent.{Lent}
use Rattle.replay.specs.Ledger.{answer, accepted, answers, after, after_all}

module _ (v : View) (whole : Lengths) where
  pub record Carried {X : Type 0} (calls : List Call) (memory held : List ℤ) (block bytes : List ℕ) (said : List (Result X ChainFault)) : Type 0 where
    -- each call has answered
    pub answered : map (outcome chain_number) said ≡ answers v whole calls
    -- the memory holds the values after them
    pub values : held ≡ after_all v whole calls memory
    -- the bytes past the block are as they were
    pub rest : drop v.scheme.block bytes ≡ drop v.scheme.block block

  -- a look changes no value
  pub look_keeps : (lent : Lent) (c : Call) (memory : List ℤ) → c ≡ Look lent → memory ≡ after v whole c memory
  look_keeps lent c memory e = sym (ap (λ d. after v whole d memory) e ∙ cond_both (accepted v whole (Look lent)) memory memory (λ l. l ≡ memory) (λ _. refl) (λ _. refl))

  after_push : (calls : List Call) (c : Call) (memory : List ℤ) → after_all v whole (calls ++ c ∷ []) memory ≡ after v whole c (after_all v whole calls memory)
  after_push [] c memory = refl
  after_push (b ∷ bs) c memory = after_push bs c (after v whole b memory)

  module _ {X : Type 0} (calls : List Call) (memory : List ℤ) (block : List ℕ) where
    pub none_carried : (said : List (Result X ChainFault)) → said ≡ [] → Carried (take 0 calls) memory memory block block said
    none_carried said e = record { answered = ap (map (outcome chain_number)) e; values = refl; rest = refl }

    pub one_more : (i : ℕ) (d : Call) (values values_now : List ℤ) (bytes bytes_now : List ℕ) (said said_now : List (Result X ChainFault)) (r : Result X ChainFault) →
        Carried (take i calls) memory values block bytes said → i < length calls → outcome chain_number r ≡ answer v whole (get_or calls i d) →
        values_now ≡ after v whole (get_or calls i d) values → drop v.scheme.block bytes_now ≡ drop v.scheme.block bytes → said_now ≡ said ++ r ∷ [] →
        Carried (take (i + 1) calls) memory values_now block bytes_now said_now
    one_more i d values values_now bytes bytes_now said said_now r was lt e changes kept more =
        let c = get_or calls i d in
        let upto : take (i + 1) calls ≡ take i calls ++ c ∷ [] = take_more calls i d lt in
        record {
          answered = ap (map (outcome chain_number)) more ∙ map_push (outcome chain_number) said r
              ∙ (λ x. was.answered x ++ e x ∷ []) ∙ sym (ap (map (answer v whole)) upto ∙ map_push (answer v whole) (take i calls) c);
          values = changes ∙ ap (after v whole c) was.values ∙ sym (ap (λ l. after_all v whole l memory) upto ∙ after_push (take i calls) c memory);
          rest = kept ∙ was.rest;
        }

    pub all_carried : (i : ℕ) (values : List ℤ) (bytes : List ℕ) (said : List (Result X ChainFault)) → length calls ≤ i → Carried (take i calls) memory values block bytes said → Carried calls memory values block bytes said
    all_carried i values bytes said h was =
        let all = take_all i calls h in
        record { answered = was.answered ∙ ap (answers v whole) all; values = was.values ∙ ap (λ l. after_all v whole l memory) all; rest = was.rest }
