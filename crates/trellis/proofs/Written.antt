-- A block's bits written over a memory, from the last to the first.
-- Assumes nothing.
use Rattle.std.proofs.Common.{◌≡◌, ℕ, zero, suc, ◌<◌, ◌≤◌, Bool, List, length, get_or, set, sym, refl, ap, ◌∙◌, ⊎_elim, arith, get_or-set_other, get_or-set_same}
use Rattle.std.proofs.lemmas.List.{set_comm, length-set}
use Rattle.std.proofs.lemmas.Bool.{cases_eq}
use Rattle.code.specs.Numbers.{digit}
use Rattle.trellis.specs.Choice.{back}
use Rattle.trellis.specs.Survivors.{before}
use Rattle.trellis.specs.Marks.{overwritten}
use Rattle.trellis.proofs.Survival.{back_last, back_more}

-- the bits below n decide
pub overwritten_same : (n : ℕ) (u v : ℕ → Bool) (bytes : List ℕ) → ((i : ℕ) → i < n → u i ≡ v i) → overwritten n u bytes ≡ overwritten n v bytes
unfolding overwritten
overwritten_same zero u v bytes same = refl
overwritten_same (suc n) u v bytes same =
    ap (λ l. set l n (digit (u n))) (overwritten_same n u v bytes (λ i l. same i (omega arith)))
    ∙ ap (λ b. set (overwritten n v bytes) n (digit b)) (same n (omega arith))

-- a byte past those that are written may be set before or after
overwritten_set : (n : ℕ) (u : ℕ → Bool) (bytes : List ℕ) (i x : ℕ) → n ≤ i → overwritten n u (set bytes i x) ≡ set (overwritten n u bytes) i x
unfolding overwritten
overwritten_set zero u bytes i x l = refl
overwritten_set (suc n) u bytes i x l =
    ap (λ b. set b n (digit (u n))) (overwritten_set n u bytes i x (omega arith))
    ∙ set_comm (overwritten n u bytes) i n x (digit (u n)) (λ e. omega arith)

-- one step back writes the last of the bits that are left
pub overwritten_back : (m : ℕ) (marks : ℕ → ℕ → Bool) (t s : ℕ) (bytes : List ℕ) →
    overwritten t (back m marks t (before m (marks t s) s)) (set bytes t (digit (marks t s))) ≡ overwritten (suc t) (back m marks (suc t) s) bytes
unfolding overwritten
overwritten_back m marks t s bytes =
    let u = back m marks (suc t) s in
    overwritten_set t _ bytes t (digit (marks t s)) (omega arith)
    ∙ ap (λ l. set l t (digit (marks t s))) (overwritten_same t _ u bytes (λ i l. sym (back_more m marks t s i l)))
    ∙ ap (λ b. set (overwritten t u bytes) t (digit b)) (sym (back_last m marks t s))

-- the memory keeps its length
pub overwritten_length : (n : ℕ) (u : ℕ → Bool) (bytes : List ℕ) → length (overwritten n u bytes) ≡ length bytes
unfolding overwritten
overwritten_length zero u bytes = refl
overwritten_length (suc n) u bytes = length-set (overwritten n u bytes) n (digit (u n)) ∙ overwritten_length n u bytes

-- the bytes of the block are its bits
pub overwritten_at : (n : ℕ) (u : ℕ → Bool) (bytes : List ℕ) (i : ℕ) → i < n → i < length bytes → get_or (overwritten n u bytes) i 0 ≡ digit (u i)
unfolding overwritten
overwritten_at zero u bytes i l h = absurd (omega arith)
overwritten_at (suc n) u bytes i l h =
    ⊎_elim
    (λ e. ap (λ j. get_or (set (overwritten n u bytes) n (digit (u n))) j 0) e
    ∙ get_or-set_same (overwritten n u bytes) n (digit (u n)) 0 (omega (arith, overwritten_length n u bytes)) ∙ ap (λ j. digit (u j)) (sym e))
    (λ ne. get_or-set_other (overwritten n u bytes) n i (digit (u n)) 0 ne ∙ overwritten_at n u bytes i (omega arith) h)
    (cases_eq i n)

-- the bytes past it stay
pub overwritten_past : (n : ℕ) (u : ℕ → Bool) (bytes : List ℕ) (i : ℕ) → n ≤ i → get_or (overwritten n u bytes) i 0 ≡ get_or bytes i 0
unfolding overwritten
overwritten_past zero u bytes i l = refl
overwritten_past (suc n) u bytes i l =
    get_or-set_other (overwritten n u bytes) n i (digit (u n)) 0 (λ e. omega arith) ∙ overwritten_past n u bytes i (omega arith)
