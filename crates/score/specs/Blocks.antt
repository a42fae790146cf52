-- The score of a block against the values at the locations.
-- Assumes nothing.
use Rattle.std.specs.Prelude.{◌≡◌, ℕ, zero, suc, ◌+◌, ◌*◌, ◌/◌, ◌%◌, ◌<◌, Bool, true, false, cond, not, List, [], ◌∷◌, length, ℤ, pos, negsuc, ◌==◌, nat_lt, slice_index_or}
use Rattle.std.specs.Int.{int_max}
use Rattle.plan.specs.Scheme.{Scheme, sent_length}
use Rattle.code.specs.Coding.{coded, is_block, mother}
use Rattle.code.specs.Sending.{source, location}
use Rattle.score.specs.Values.{contradicted}
use Rattle.score.specs.Scale.{Scale}

-- the value that the memory has for a location: -32,768 is read as -32,767, and past the end there is 0
abbrev pub value_at : List ℤ → ℕ → ℤ
value_at memory i = int_max (slice_index_or memory i (pos 0)) (negsuc 32766)

-- of the entries from place i of the send list on, the values of those sent bits of run j that are bit e of its period
abbrev pub named_from : Scheme → (ℕ → ℤ) → ℕ → ℕ → ℕ → List ℕ → List ℤ
named_from s values j e i [] = []
named_from s values j e i (x ∷ xs) =
    cond (x == e) (values (location s (j * length s.entries + i)) ∷ named_from s values j e (i + 1) xs) (named_from s values j e (i + 1) xs)

-- the values, in turn, of the sent bits of run j of the send list whose entry is e
unfoldable pub named : Scheme → (ℕ → ℤ) → ℕ → ℕ → List ℤ
named s values j e = named_from s values j e 0 s.entries

-- a score extended by each value in turn, against one bit
abbrev pub absorbed : {S : Type 0} → Scale S → List ℤ → Bool → S → S
absorbed k [] bit score = score
absorbed k (value ∷ values) bit score = absorbed k values bit (k.extended score value bit)

-- the values that name the first bit of pair t, and those that name the second
abbrev pub step_values : Scheme → (ℕ → ℤ) → ℕ → List ℤ × List ℤ
step_values s values t =
    (named s values (t / s.period) (2 * (t % s.period)), named s values (t / s.period) (2 * (t % s.period) + 1))

-- the values of both bits of a pair: first those of the first bit, then those of the second
abbrev pub absorbed_both : {S : Type 0} → Scale S → List ℤ × List ℤ → Bool × Bool → S → S
absorbed_both k both bits score = absorbed k both.1 bits.1 (absorbed k both.0 bits.0 score)

-- step t takes the values of pair t
unfoldable pub step_score : {S : Type 0} → Scale S → Scheme → (ℕ → ℤ) → ℕ → Bool × Bool → S → S
step_score k s values t bits score = absorbed_both k (step_values s values t) bits score

-- the score after the first t steps
abbrev pub score_after : {S : Type 0} → Scale S → Scheme → (ℕ → ℤ) → (ℕ → Bool) → ℕ → S
score_after k s values u zero = k.start
score_after k s values u (suc t) = step_score k s values t (coded s u t) (score_after k s values u t)

-- the score of a block: a step for each of its bits
unfoldable pub block_score : {S : Type 0} → Scale S → Scheme → (ℕ → ℤ) → (ℕ → Bool) → S
block_score k s values u = score_after k s values u s.block

-- the value at sent bit n's location says another bit than the block sends there
unfoldable pub contradicted_at : Scheme → (ℕ → ℤ) → (ℕ → Bool) → ℕ → Bool
contradicted_at s values u n = contradicted (values (location s n)) (mother s u (source s n))

-- no sent bit of the block is contradicted
abbrev pub Agrees : Scheme → (ℕ → ℤ) → (ℕ → Bool) → Type 0
Agrees s values u = (n : ℕ) → n < sent_length s → contradicted_at s values u n ≡ false

-- some sent bit of the block is contradicted
abbrev pub Contradicts : Scheme → (ℕ → ℤ) → (ℕ → Bool) → Type 0
Contradicts s values u = (n : ℕ) × (n < sent_length s) × (contradicted_at s values u n ≡ true)

-- scoring asks for a block, and then for a value for each location
abbrev pub score_answer : Scheme → List ℕ → ℕ → ℕ
score_answer s block given = cond (not (is_block s block)) 12 (cond (nat_lt given (sent_length s)) 13 0)
