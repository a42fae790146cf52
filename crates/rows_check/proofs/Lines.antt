-- Lines, one behind the other.
-- Assumes nothing.
use Rattle.std.proofs.Common.{◌≡◌, ℕ, ◌+◌, ◌<◌, List, [], ◌∷◌, ◌++◌, Option, Result, Ok, Err, length, drop, get_or, sym, refl, subst, append_assoc, append-nil, add-one, drop-cons}
use Rattle.std.specs.Prelude.{OnOk}
use Rattle.std.specs.Io.KnownBytes.{Appends}
use Rattle.std.proofs.KnownBytes.{Appends-nil, Appends-trans}
use Rattle.rows_check.specs.Refusals.{IsLine, AreLines}

-- the lines of the first n are written, and with those of the others they are those of all
pub record Shown (qs : List (ℕ × ℕ × ℕ × ℕ)) (n : ℕ) (w v : Option (List ℕ)) : Type 0 where
  pub text : List ℕ
  pub written : Appends w v text
  pub rest : (more : List ℕ) → AreLines (drop n qs) more → AreLines qs (text ++ more)

pub shown_none : (qs : List (ℕ × ℕ × ℕ × ℕ)) (w : Option (List ℕ)) → Shown qs 0 w w
shown_none qs w = record { text = []; written = Appends-nil w; rest = λ more lines. lines }

-- one more
pub shown_more : (qs : List (ℕ × ℕ × ℕ × ℕ)) (n : ℕ) (w v u : Option (List ℕ)) (d : ℕ × ℕ × ℕ × ℕ) (text : List ℕ) → n < length qs → Shown qs n w v →
    IsLine (record { bandwidth = (get_or qs n d).0; waveform = (get_or qs n d).1; interleaver = (get_or qs n d).2 }) (get_or qs n d).3 text → Appends v u text →
    Shown qs (n + 1) w u
shown_more qs n w v u d text h s p a =
    let here : drop n qs ≡ get_or qs n d ∷ drop (n + 1) qs = rw (add-one, drop-cons qs n d) in record {
      text = s.text ++ text;
      written = Appends-trans w v u s.text text s.written a;
      rest = λ more lines. subst (AreLines qs) (sym (append_assoc s.text text more))
          (s.rest (text ++ more) (subst (λ l. AreLines l (text ++ more)) (sym here) (text, p, (more, lines, refl))));
    }

none_left : (qs : List (ℕ × ℕ × ℕ × ℕ)) → AreLines (drop (length qs) qs) []
none_left [] = refl
none_left (q ∷ qs) = none_left qs

-- all
pub shown_all : (qs : List (ℕ × ℕ × ℕ × ℕ)) (n : ℕ) (w v : Option (List ℕ)) → n ≡ length qs → Shown qs n w v → (text : List ℕ) × AreLines qs text × Appends w v text
shown_all qs n w v e s = (s.text, subst (AreLines qs) (append-nil s.text) (s.rest [] (subst (λ k. AreLines (drop k qs) []) (sym e) (none_left qs))), s.written)

pub on_ok : {X E : Type 0} (r : Result X E) (P Q : Type 0) → (P → Q) → OnOk r P → OnOk r Q
on_ok (Ok x) P Q f h = f h
on_ok (Err e) P Q f h = tt
