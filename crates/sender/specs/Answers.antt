-- What the sender's calls answer: 0, or the number of the first question that is answered no.
-- Assumes nothing.
use Rattle.std.specs.Prelude.{ℕ, Bool, cond, not, List, nat_lt}
use Rattle.plan.specs.Scheme.{Scheme}
use Rattle.code.specs.Coding.{is_block}
use Rattle.scrambler.specs.Meaning.{Meaning}
use Rattle.sender.specs.Scrambling.{fits}
use Rattle.sender.specs.Transmission.{symbols}

-- making a sender asks whether the scrambler fits; a fit is made, unless memory is wanting
abbrev pub making_answer : Scheme → Meaning → Bool → ℕ
making_answer s m made = cond (fits s m) (cond made 0 255) 11

-- sending asks for a scrambler that fits, then for a block, then for room for its on-air indices
abbrev pub send_answer : Scheme → Meaning → List ℕ → ℕ → ℕ
send_answer s m block room =
    cond (not (fits s m)) 11
    (cond (not (is_block s block)) 12
    (cond (nat_lt room (symbols s)) 13 0))
