-- What the calls of this crate answer: 0, or the number of the first question that is answered no.
-- Assumes nothing.
use Rattle.std.specs.Prelude.{ℕ, ◌*◌, ◌/◌, cond, not, ◌||◌, List, nat_le, nat_lt}
use Rattle.plan.specs.Scheme.{Scheme, sent_length}
use Rattle.code.specs.Coding.{is_block}

-- encoding asks for a block, then for room for the code word
abbrev pub encode_answer : Scheme → List ℕ → ℕ → ℕ
encode_answer s block room = cond (not (is_block s block)) 12 (cond (nat_lt room (2 * s.block)) 13 0)

-- loading asks for a whole code word and for room for the array
abbrev pub load_answer : Scheme → ℕ → ℕ → ℕ
load_answer s given room = cond (nat_lt given (2 * s.block) || nat_lt room (sent_length s)) 13 0

-- fetching a symbol asks for a whole array, then for a place below the number of symbols
abbrev pub fetch_answer : Scheme → ℕ → ℕ → ℕ
fetch_answer s given place = cond (nat_lt given (sent_length s)) 13 (cond (nat_le (sent_length s / s.bits) place) 14 0)
