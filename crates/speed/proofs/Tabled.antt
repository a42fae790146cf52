-- Texts of lists, one behind the other; looks, one after the other.
-- Assumes nothing.
use Rattle.std.proofs.Common.{◌≡◌, ℕ, ◌+◌, ◌<◌, List, [], ◌∷◌, ◌++◌, Option, Result, Ok, Err, false, length, drop, get_or, sym, refl, subst, append_assoc, append-nil, add-one, drop-cons, arith}
use Rattle.std.specs.Prelude.{OnOk}
use Rattle.std.specs.Io.KnownBytes.{Appends}
use Rattle.std.proofs.KnownBytes.{Appends-nil, Appends-trans}
use Rattle.std.specs.Float.Ieee.{Float}
use Rattle.speed.specs.Tables.{is_enough, no_looks, Each, Both}
use Rattle.speed.specs.Times.{with_look}
use Rattle.speed.specs.declared.timing.Taken.{Taken}

-- the texts of the first n are written, and with those of the others they are those of all
pub record Shown {X : Type 0} (P : X → List ℕ → Type 0) (xs : List X) (n : ℕ) (w v : Option (List ℕ)) : Type 0 where
  pub text : List ℕ
  pub written : Appends w v text
  pub rest : (more : List ℕ) → Each P (drop n xs) more → Each P xs (text ++ more)

pub shown_none : {X : Type 0} (P : X → List ℕ → Type 0) (xs : List X) (w : Option (List ℕ)) → Shown P xs 0 w w
shown_none P xs w = record { text = []; written = Appends-nil w; rest = λ more texts. texts }

-- the text of one more
pub shown_more : {X : Type 0} (P : X → List ℕ → Type 0) (xs : List X) (n : ℕ) (w v u : Option (List ℕ)) (d : X) (text : List ℕ) → n < length xs →
    Shown P xs n w v → P (get_or xs n d) text → Appends v u text → Shown P xs (n + 1) w u
shown_more P xs n w v u d text h s p a =
    let here : drop n xs ≡ get_or xs n d ∷ drop (n + 1) xs = rw (add-one, drop-cons xs n d) in record {
      text = s.text ++ text;
      written = Appends-trans w v u s.text text s.written a;
      rest = λ more texts. subst (Each P xs) (sym (append_assoc s.text text more))
          (s.rest (text ++ more) (subst (λ l. Each P l (text ++ more)) (sym here) (text, p, (more, texts, refl))));
    }

none_left : {X : Type 0} (P : X → List ℕ → Type 0) (xs : List X) → Each P (drop (length xs) xs) []
none_left P [] = refl
none_left P (x ∷ xs) = none_left P xs

-- the texts of all
pub shown_all : {X : Type 0} (P : X → List ℕ → Type 0) (xs : List X) (n : ℕ) (w v : Option (List ℕ)) → n ≡ length xs → Shown P xs n w v →
    (text : List ℕ) × Each P xs text × Appends w v text
shown_all P xs n w v e s = (s.text, subst (Each P xs) (append-nil s.text) (s.rest [] (subst (λ k. Each P (drop k xs) []) (sym e) (none_left P xs))), s.written)

-- one text behind another
pub shown_both : (P Q : List ℕ → Type 0) (w v u : Option (List ℕ)) →
    ((text : List ℕ) × P text × Appends w v text) → ((text : List ℕ) × Q text × Appends v u text) → (text : List ℕ) × Both P Q text × Appends w u text
shown_both P Q w v u a b = (a.0 ++ b.0, (a.0, a.1, (b.0, b.1, refl)), Appends-trans w v u a.0 b.0 a.2 b.2)

pub on_ok : {X E : Type 0} (r : Result X E) (P Q : Type 0) → (P → Q) → OnOk r P → OnOk r Q
on_ok (Ok x) P Q f h = f h
on_ok (Err e) P Q f h = tt

-- no looks are not enough
pub not_yet : is_enough no_looks ≡ false
unfolding lib.Ieee.of_bits lib.Ieee.lt
not_yet = refl

-- the number of looks with one more
pub looks_more : (t : Taken) (n trips : ℕ) (seconds : Float) → t.looks ≡ n → n < 500 → (with_look t trips seconds).looks ≡ n + 1
looks_more t n trips seconds e h = omega (arith, e, h)
