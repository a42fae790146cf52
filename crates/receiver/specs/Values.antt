-- The values at the locations, and what the calls set them to.
-- Assumes nothing.
use Rattle.std.specs.Prelude.{ℕ, zero, suc, ◌+◌, ◌*◌, Bool, cond, List, ℤ, pos, neg_ℤ, Option, slice_set}
use Rattle.std.specs.Option.{unwrap_or}
use Rattle.plan.specs.Scheme.{Scheme, sent_length}
use Rattle.code.specs.Mapping.{number_of}
use Rattle.code.specs.Numbers.{bit_of}
use Rattle.sender.specs.Scrambling.{unscrambled}
use Rattle.sender.specs.Transmission.{value_for}
use Rattle.receiver.specs.Views.{View}

-- a memory once n values, f 0 and on, are set from the location `first` on
abbrev pub with_values : List ℤ → ℕ → (ℕ → ℤ) → ℕ → List ℤ
with_values memory first f zero = memory
with_values memory first f (suc n) = slice_set (with_values memory first f n) (first + n) (f n)

-- plus the weight for bit 0, minus the weight for bit 1
abbrev pub signed : ℕ → Bool → ℤ
signed weight bit = cond bit (neg_ℤ (pos weight)) (pos weight)

-- the number that a heard symbol's bits write, once the scrambling is off, or none where it stands for no bits
abbrev pub heard : View → ℕ → ℕ → Option ℕ
heard v place index = number_of v.scheme.bits (unscrambled v.scheme.bits index (value_for v.scheme v.meaning place))

-- making sets every location to 0
abbrev pub after_making : Scheme → List ℤ → List ℤ
after_making s memory = with_values memory 0 (λ _. pos 0) (sent_length s)

-- hearing sets the symbol's locations by its bits
abbrev pub after_hear : View → ℕ → ℕ → ℕ → List ℤ → List ℤ
after_hear v place index weight memory =
    let q = v.scheme.bits in
    with_values memory (place * q) (λ i. signed weight (bit_of q (unwrap_or (heard v place index) 0) i)) q

-- noting sets one location
abbrev pub after_note : ℕ → ℤ → List ℤ → List ℤ
after_note location value memory = slice_set memory location value

-- blanking sets the symbol's locations to 0
abbrev pub after_blank : Scheme → ℕ → List ℤ → List ℤ
after_blank s place memory = with_values memory (place * s.bits) (λ _. pos 0) s.bits
