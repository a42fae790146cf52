-- What the receiver's calls answer: 0, or the number of the first question that is answered no.
-- Assumes nothing.
use Rattle.std.specs.Prelude.{◌≡◌, ℕ, ◌^◌, Bool, true, false, cond, not, ◌&&◌, ℤ, is_some, Result, MatchResult, nat_le, nat_lt, unsigned_abs}
use Rattle.plan.specs.declared.fault.ChainFault.{ChainFault}
use Rattle.plan.specs.Scheme.{Scheme, sent_length}
use Rattle.sender.specs.Scrambling.{fits, needed_width}
use Rattle.sender.specs.Transmission.{symbols}
use Rattle.receiver.specs.Values.{heard}
use Rattle.receiver.specs.Views.{View}

-- the scrambler of a view fits its scheme
abbrev pub view_fits : View → Bool
view_fits v = fits v.scheme v.meaning

-- the lent memory has a value for each location
abbrev pub lent_enough : Scheme → ℕ → Bool
lent_enough s lent = nat_le (sent_length s) lent

-- the index is one that goes on the air, and the weight is in range
abbrev pub index_fits : Scheme → ℕ → ℕ → Bool
index_fits s index weight = nat_lt index (2 ^ needed_width s.bits) && nat_le weight 32767

-- the location exists, and the value is from -32,767 to 32,767
abbrev pub note_fits : Scheme → ℕ → ℤ → Bool
note_fits s location value = nat_lt location (sent_length s) && nat_le (unsigned_abs value) 32767

-- making asks for a scrambler that fits, then for the memory
abbrev pub making_answer : View → ℕ → ℕ
making_answer v lent = cond (not (view_fits v)) 11 (cond (not (lent_enough v.scheme lent)) 13 0)

-- hearing asks for the memory, the place, the index and weight, and the mapping; a receiver that making gave has a scrambler that fits
abbrev pub hear_answer : View → ℕ → ℕ → ℕ → ℕ → ℕ
hear_answer v lent place index weight =
    cond (not (view_fits v)) 11
    (cond (not (lent_enough v.scheme lent)) 13
    (cond (not (nat_lt place (symbols v.scheme))) 14
    (cond (not (index_fits v.scheme index weight)) 15
    (cond (not (is_some (heard v place index))) 16 0))))

-- noting asks for the memory, then for the location and the value
abbrev pub note_answer : Scheme → ℕ → ℕ → ℤ → ℕ
note_answer s lent location value = cond (not (lent_enough s lent)) 13 (cond (not (note_fits s location value)) 17 0)

-- blanking asks for the memory, then for the place
abbrev pub blank_answer : Scheme → ℕ → ℕ → ℕ
blank_answer s lent place = cond (not (lent_enough s lent)) 13 (cond (not (nat_lt place (symbols s))) 14 0)

-- a question that is passed where its answer is yes, and is the fault where it is no
abbrev pub Asks : {X : Type 0} → Bool → ChainFault → Result X ChainFault → Type 0
Asks passes fault result = MatchResult result (λ _. passes ≡ true) (λ e. (e ≡ fault) × (passes ≡ false))
