-- One entry more of the send list.
-- Assumes nothing.
use Rattle.std.proofs.Common.{◌≡◌, ℕ, ◌+◌, ◌*◌, ◌<◌, ◌≤◌, List, [], ◌∷◌, ◌++◌, length, get_or, drop, ℤ, sym, refl, ap, ◌∙◌}
use Rattle.std.proofs.lemmas.List.{at_drop_more, at_drop_all, append_assoc, append-nil}
use Rattle.std.proofs.lemmas.Bool.{eq-eqb, ne_eqb}
use Rattle.plan.specs.Scheme.{Scheme}
use Rattle.code.specs.Sending.{location}
use Rattle.score.specs.Blocks.{named_from, named}

module _ (s : Scheme) (values : ℕ → ℤ) (j e : ℕ) where
  -- what is found, with what the entries from place i on give, is the whole
  abbrev pub Found : List ℤ → ℕ → Type 0
  Found found i = found ++ named_from s values j e i (drop i s.entries) ≡ named s values j e

  pub found_none : Found [] 0
  unfolding named
  found_none = refl

  pub found_more : (found : List ℤ) (i : ℕ) → i < length s.entries → get_or s.entries i 0 ≡ e → Found found i → Found (found ++ values (location s (j * length s.entries + i)) ∷ []) (i + 1)
  found_more found i h q f =
      let v = values (location s (j * length s.entries + i)) in
      let t = eq-eqb (get_or s.entries i 0) e q in
      append_assoc found (v ∷ []) _ ∙ ap (λ r. found ++ r) (sym (at_drop_more (named_from s values j e i) s.entries i 0 h ∙ (rw t))) ∙ f

  pub found_same : (found : List ℤ) (i : ℕ) → i < length s.entries → (get_or s.entries i 0 ≡ e → ⊥) → Found found i → Found found (i + 1)
  found_same found i h q f =
      let t = ne_eqb (get_or s.entries i 0) e q in
      ap (λ r. found ++ r) (sym (at_drop_more (named_from s values j e i) s.entries i 0 h ∙ (rw t))) ∙ f

  pub found_all : (found : List ℤ) (i : ℕ) → length s.entries ≤ i → Found found i → found ≡ named s values j e
  found_all found i h f =
      sym (append-nil found) ∙ ap (λ r. found ++ r) (sym (at_drop_all (named_from s values j e i) s.entries i h)) ∙ f
