-- A memory whose first n places hold what a function says, and whose other places are as they were.
-- Assumes nothing.
use Rattle.std.proofs.Common.{◌≡◌, ℕ, ◌+◌, ◌-◌, ◌<◌, ◌≤◌, ◌≢◌, List, ◌++◌, map, length, get_or, drop, set, sym, refl, ap, ◌∙◌, ⊎_elim, arith}
use Rattle.std.specs.List.{range_with_len}
use Rattle.std.proofs.lemmas.List.FromFn.{length-map-range_with_len, get_or-map-range_with_len}
use Rattle.std.proofs.lemmas.List.{length-set, length-append, length-drop, get_or-set_same, get_or-set_other, get_or_append_left, get_or-append_right, get_or-drop, same_lists}
use Rattle.std.proofs.lemmas.Bool.{cases_lt, cases_eq}

pub record Filled {X : Type 0} (f : ℕ → X) (n : ℕ) (old new : List X) : Type 0 where
  pub long : length new ≡ length old
  pub front : (i : ℕ) (d : X) → i < n → i < length old → get_or new i d ≡ f i
  pub rest : (i : ℕ) (d : X) → n ≤ i → get_or new i d ≡ get_or old i d

module _ {X : Type 0} (f : ℕ → X) where
  pub filled_none : (old : List X) → Filled f 0 old old
  filled_none old = record { long = refl; front = λ i d h l. absurd (omega arith); rest = λ i d h. refl }

  pub filled_more : (n : ℕ) (old new : List X) (x : X) → Filled f n old new → x ≡ f n → Filled f (n + 1) old (set new n x)
  filled_more n old new x h e = record {
    long = length-set new n x ∙ h.long;
    front = λ i d lt l. ⊎_elim
        (λ is. ap (λ j. get_or (set new n x) j d) is ∙ get_or-set_same new n x d (omega (arith, h.long)) ∙ e ∙ ap f (sym is))
        (λ ne. get_or-set_other new n i x d ne ∙ h.front i d (let p : i ≢ n = ne in omega arith) l)
        (cases_eq i n);
    rest = λ i d ge. let p : i ≢ n = omega arith in get_or-set_other new n i x d p ∙ h.rest i d (omega arith);
  }

  pub filled_all : (n : ℕ) (old new : List X) → n ≤ length old → Filled f n old new → new ≡ map f (range_with_len 0 n) ++ drop n old
  filled_all n old new le h =
      let front = length-map-range_with_len f 0 n in
      same_lists new (map f (range_with_len 0 n) ++ drop n old)
      (h.long ∙ sym (length-append (map f (range_with_len 0 n)) (drop n old) ∙ (let e = length-drop n old in omega (arith, front))))
      (λ k d lt. ⊎_elim
      (λ in_front. h.front k d in_front (omega (arith, h.long)) ∙ sym (get_or_append_left _ (drop n old) d k (omega (arith, front)) ∙ get_or-map-range_with_len f 0 n k k d in_front (omega arith)))
      (λ past. h.rest k d past ∙ sym (get_or-append_right _ (drop n old) n k d front past ∙ get_or-drop n old (k - n) d ∙ ap (λ j. get_or old j d) (omega arith)))
      (cases_lt k n))
