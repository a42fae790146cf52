-- The send list, column by column.
-- Assumes nothing.
use Rattle.std.proofs.Common.{◌≡◌, ℕ, ◌+◌, ◌*◌, ◌/◌, List, [], ◌∷◌, ◌++◌, ◌⊎◌, length, sym, ap, ◌∙◌, append_assoc, append-nil, ⊎_elim, arith}
use Rattle.rows.specs.Patterns.{if_sent, column_listed, listed}

-- both bits of a column, one after the other
pub column_all : (old mid new : List ℕ) (repeats column entry first second : ℕ) → entry ≡ 2 * (column / repeats) →
    mid ≡ old ++ if_sent first entry → new ≡ mid ++ if_sent second (entry + 1) → new ≡ old ++ column_listed repeats column first second
column_all old mid new repeats column entry first second e m n = rw (n, m, e) (append_assoc old _ _)

-- no column is left where a row of the mask has ended
pub listed_all : (items whole : List ℕ) (repeats i : ℕ) (first second : List ℕ) → (first ≡ []) ⊎ (second ≡ []) →
    items ++ listed repeats i first second ≡ whole → items ≡ whole
listed_all items whole repeats i [] second h e = sym (append-nil items) ∙ e
listed_all items whole repeats i (f ∷ first) [] h e = sym (append-nil items) ∙ e
listed_all items whole repeats i (f ∷ first) (s ∷ second) h e = absurd (⊎_elim (λ x. let y = ap length x in omega arith) (λ x. let y = ap length x in omega arith) h)
