-- The eight questions that a plan is asked, in their order.
-- Assumes nothing.
use Rattle.std.specs.Prelude.{ℕ, zero, suc, ◌+◌, ◌-◌, ◌*◌, ◌%◌, Bool, true, cond, not, ◌&&◌, ◌||◌, List, length, ◌==◌, nat_le, nat_lt}
use Rattle.std.specs.List.{list_all}
use Rattle.plan.specs.Scheme.{Scheme, sent_length}

-- n lies from low to high, both included
abbrev pub within : ℕ → ℕ → ℕ → Bool
within low high n = nat_le low n && nat_le n high

-- d divides n
abbrev pub divides : ℕ → ℕ → Bool
divides d n = n % d == 0

-- every entry is below the bound
abbrev pub all_below : ℕ → List ℕ → Bool
all_below bound = list_all (λ e. nat_lt e bound)

-- none of the numbers from 2 to count + 1 divides both a and n
abbrev pub none_divides : ℕ → ℕ → ℕ → Bool
none_divides a n zero = true
none_divides a n (suc count) = not (divides (count + 2) a && divides (count + 2) n) && none_divides a n count

-- a and n share no divisor above 1: a common divisor of a positive n is at most n
unfoldable pub coprime : ℕ → ℕ → Bool
coprime a n = none_divides a n (n - 1)

abbrev pub constraint_fits : Scheme → Bool
constraint_fits s = s.constraint == 7 || s.constraint == 9

abbrev pub period_fits : Scheme → Bool
period_fits s = within 1 12 s.period && within 1 32 (length s.entries)

abbrev pub entries_fit : Scheme → Bool
entries_fit s = all_below (2 * s.period) s.entries

abbrev pub block_fits : Scheme → Bool
block_fits s = within 9 1843200 s.block && divides s.period s.block

abbrev pub sent_fits : Scheme → Bool
sent_fits s = nat_le (sent_length s) 2211840

-- one of 1, 2, 3, 4, 5, 6 and 8
abbrev pub bits_fit : Scheme → Bool
bits_fit s = within 1 6 s.bits || s.bits == 8

abbrev pub frame_fits : Scheme → Bool
frame_fits s = within 1 4096 s.frame && divides (s.bits * s.frame) (sent_length s)

abbrev pub increment_fits : Scheme → Bool
increment_fits s = within 1 (sent_length s) s.increment && coprime s.increment (sent_length s)

-- the number of the first question that is answered no, and 0 where there is none
abbrev pub plan_answer : Scheme → ℕ
plan_answer s =
    cond (not (constraint_fits s)) 1
    (cond (not (period_fits s)) 2
    (cond (not (entries_fit s)) 3
    (cond (not (block_fits s)) 4
    (cond (not (sent_fits s)) 5
    (cond (not (bits_fit s)) 6
    (cond (not (frame_fits s)) 7
    (cond (not (increment_fits s)) 8 0)))))))
