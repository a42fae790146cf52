-- A symbol tells the bits at its locations.
-- Assumes nothing.
use Rattle.std.proofs.Common.{◌≡◌, ℕ, zero, suc, ◌+◌, ◌*◌, ◌<◌, ◌≤◌, Bool, true, false, ◌≢◌, List, Some, sym, refl, ap, ◌∙◌, ⊎_elim, arith}
use Rattle.std.proofs.lemmas.Bool.{cases_eq}
use Rattle.plan.specs.Scheme.{Scheme}
use Rattle.plan.proofs.Facts.{facts}
use Rattle.code.specs.Mapping.{symbol_of, number_of, symbol_at}
use Rattle.code.specs.Numbers.{digit, num, read}
use Rattle.code.proofs.Blocks.{digit_le, num_below}
use Rattle.code.proofs.Maps.{inverts}
use Rattle.sender.specs.Laws.{SameGroup, TellsBits}
use Rattle.sender.specs.Transmission.{sent_array}
use Rattle.sender.proofs.Apart.{keeps_differences}

same_digit : (a b : Bool) → digit a ≡ digit b → a ≡ b
same_digit true true e = refl
same_digit true false e = absurd (omega arith)
same_digit false true e = absurd (omega arith)
same_digit false false e = refl

-- bits that write the same number are the same
same_bits : (f g : ℕ → Bool) (n t : ℕ) → num f n t ≡ num g n t → (k : ℕ) → k < n → f (t + k) ≡ g (t + k)
same_bits f g zero t e k h = absurd (omega arith)
same_bits f g (suc n) t e k h =
    let low_f = digit_le (f (t + n)) in
    let low_g = digit_le (g (t + n)) in
    ⊎_elim
    (λ is. ap (λ j. f (t + j)) is ∙ same_digit (f (t + n)) (g (t + n)) (omega arith) ∙ ap (λ j. g (t + j)) (sym is))
    (λ other. let apart : k ≢ n = other in same_bits f g n t (omega arith) k (omega arith))
    (cases_eq k n)

same_number : (f g : ℕ → Bool) (n t : ℕ) → ((k : ℕ) → k < n → f (t + k) ≡ g (t + k)) → num f n t ≡ num g n t
same_number f g zero t e = refl
same_number f g (suc n) t e = λ i. 2 * same_number f g n t (λ k h. e k (omega arith)) i + digit (e n (omega arith) i)

-- symbols are the same exactly where their bits are
same_symbol : (s : Scheme) → 1 ≤ s.bits → (a b : List Bool) (i : ℕ) → symbol_at s a i ≡ symbol_at s b i → SameGroup s a b i
unfolding symbol_at
same_symbol s low a b i e =
    let q = s.bits in
    let x = num (read a) q (i * q) in
    let y = num (read b) q (i * q) in
    let undoes = (inverts q low).undoes in
    let some : Some x ≡ Some y = sym (undoes x (num_below (read a) q (i * q))) ∙ ap (number_of q) e ∙ undoes y (num_below (read b) q (i * q)) in
    same_bits (read a) (read b) q (i * q) (cc some)

same_group : (s : Scheme) (a b : List Bool) (i : ℕ) → SameGroup s a b i → symbol_at s a i ≡ symbol_at s b i
unfolding symbol_at
same_group s a b i e = ap (symbol_of s.bits) (same_number (read a) (read b) s.bits (i * s.bits) e)

pub tells_bits : TellsBits
tells_bits s ok m bounded fit u w i h =
    let both = keeps_differences s ok m bounded fit u w i h in (
      λ e. same_symbol s (facts s ok).bits_low (sent_array s u) (sent_array s w) i (both.0 e),
      λ e. both.1 (same_group s (sent_array s u) (sent_array s w) i e),
    )
