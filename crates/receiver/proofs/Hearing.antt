-- A scrambler that fits is asked for once, when the receiver is made.
-- Assumes nothing.
use Rattle.std.proofs.Common.{◌≡◌, ℕ, Bool, true, false, cond, not, ltb, is_some, sym, ap, ◌∙◌, ⊎_elim, arith}
use Rattle.std.proofs.lemmas.Bool.{cases_Bool}
use Rattle.sender.specs.Transmission.{symbols}
use Rattle.receiver.specs.Calls.{view_fits, lent_enough, index_fits, making_answer, hear_answer}
use Rattle.receiver.specs.Values.{heard}
use Rattle.receiver.specs.Views.{View}

passes : {X : Type 0} (t : Bool) (x y : X) → t ≡ true → cond (not t) x y ≡ y
passes t x y e = ap (λ b. cond (not b) x y) e

fails : {X : Type 0} (t : Bool) (x y : X) → t ≡ false → cond (not t) x y ≡ x
fails t x y e = ap (λ b. cond (not b) x y) e

-- what making accepts fits
pub made_fits : (v : View) (lent : ℕ) → making_answer v lent ≡ 0 → view_fits v ≡ true
made_fits v lent e =
    ⊎_elim (λ t. t) (λ f. let n = sym (fails (view_fits v) 11 (cond (not (lent_enough v.scheme lent)) 13 0) f) ∙ e in absurd (omega arith)) (cases_Bool (view_fits v))

-- the answers after the first question are never 11
other : (a b c d : Bool) → ◌≡◌ {A = ℕ} (cond (not a) 13 (cond (not b) 14 (cond (not c) 15 (cond (not d) 16 0)))) 11 → ⊥
other false b c d e = omega arith
other true false c d e = omega arith
other true true false d e = omega arith
other true true true false e = omega arith
other true true true true e = omega arith

pub fit_lasts : (v : View) (lent place index weight : ℕ) → view_fits v ≡ true → hear_answer v lent place index weight ≡ 11 → ⊥
fit_lasts v lent place index weight t e = other (lent_enough v.scheme lent) (ltb place (symbols v.scheme)) (index_fits v.scheme index weight) (is_some (heard v place index)) (sym (passes (view_fits v) 11 _ t) ∙ e)
