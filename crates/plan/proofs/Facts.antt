-- What the yes to every question says, as plain facts.
-- Assumes nothing.
use Rattle.std.proofs.Common.{◌≡◌, ℕ, suc, ◌*◌, ◌%◌, ◌≤◌, Bool, true, false, cond, not, ◌||◌, eqb, ◌⊎◌, length, refl, inl, inr, ⊎_elim, arith}
use Rattle.std.proofs.lemmas.Bool.{and_parts, or_cases, leb-true, eqb-true}
use Rattle.plan.specs.Scheme.{Scheme, sent_length}
use Rattle.plan.specs.Questions.{within, all_below, coprime, bits_fit, plan_answer}

pub record Facts (s : Scheme) : Type 0 where
  pub constraint : (s.constraint ≡ 7) ⊎ (s.constraint ≡ 9)
  pub constraint_low : 7 ≤ s.constraint
  pub constraint_high : s.constraint ≤ 9
  pub period_low : 1 ≤ s.period
  pub period_high : s.period ≤ 12
  pub entries_low : 1 ≤ length s.entries
  pub entries_high : length s.entries ≤ 32
  pub entries_below : all_below (2 * s.period) s.entries ≡ true
  pub block_low : 9 ≤ s.block
  pub block_high : s.block ≤ 1843200
  pub block_whole : s.block % s.period ≡ 0
  pub sent_high : sent_length s ≤ 2211840
  pub bits_fit : bits_fit s ≡ true
  pub bits_low : 1 ≤ s.bits
  pub bits_high : s.bits ≤ 8
  pub frame_low : 1 ≤ s.frame
  pub frame_high : s.frame ≤ 4096
  pub frame_whole : sent_length s % (s.bits * s.frame) ≡ 0
  pub increment_low : 1 ≤ s.increment
  pub increment_high : s.increment ≤ sent_length s
  pub increment_coprime : coprime s.increment (sent_length s) ≡ true

-- a yes, and the questions after it
yes_then : (b : Bool) (n rest : ℕ) → cond (not b) (suc n) rest ≡ 0 → (b ≡ true) × (rest ≡ 0)
yes_then true n rest e = (refl, e)
yes_then false n rest e = absurd (omega arith)

within_parts : (low high n : ℕ) → within low high n ≡ true → (low ≤ n) × (n ≤ high)
within_parts low high n t = let p = and_parts _ _ t in (leb-true low n p.0, leb-true n high p.1)

either_range : (k : ℕ) → (k ≡ 7) ⊎ (k ≡ 9) → (7 ≤ k) × (k ≤ 9)
either_range k h = ⊎_elim (λ e. (omega arith, omega arith)) (λ e. (omega arith, omega arith)) h

bits_range : (q : ℕ) → (within 1 6 q || eqb q 8) ≡ true → (1 ≤ q) × (q ≤ 8)
bits_range q t =
    ⊎_elim (λ h. let w = within_parts 1 6 q h in (w.0, omega arith)) (λ h. let w = eqb-true q 8 h in (omega arith, omega arith)) (or_cases (within 1 6 q) (eqb q 8) t)

pub facts : (s : Scheme) → plan_answer s ≡ 0 → Facts s
facts s e0 =
    let q1 = yes_then _ 0 _ e0 in
    let q2 = yes_then _ 1 _ q1.1 in
    let q3 = yes_then _ 2 _ q2.1 in
    let q4 = yes_then _ 3 _ q3.1 in
    let q5 = yes_then _ 4 _ q4.1 in
    let q6 = yes_then _ 5 _ q5.1 in
    let q7 = yes_then _ 6 _ q6.1 in
    let q8 = yes_then _ 7 _ q7.1 in
    let constraint : (s.constraint ≡ 7) ⊎ (s.constraint ≡ 9) = ⊎_elim (λ t. inl (eqb-true _ _ t)) (λ t. inr (eqb-true _ _ t)) (or_cases _ _ q1.0) in
    let two = and_parts _ _ q2.0 in
    let period = within_parts _ _ _ two.0 in
    let entries = within_parts _ _ _ two.1 in
    let four = and_parts _ _ q4.0 in
    let block = within_parts _ _ _ four.0 in
    let bits = bits_range s.bits q6.0 in
    let seven = and_parts _ _ q7.0 in
    let frame = within_parts _ _ _ seven.0 in
    let eight = and_parts _ _ q8.0 in
    let increment = within_parts _ _ _ eight.0 in
    record {
      constraint = constraint;
      constraint_low = (either_range s.constraint constraint).0;
      constraint_high = (either_range s.constraint constraint).1;
      period_low = period.0;
      period_high = period.1;
      entries_low = entries.0;
      entries_high = entries.1;
      entries_below = q3.0;
      block_low = block.0;
      block_high = block.1;
      block_whole = eqb-true _ _ four.1;
      sent_high = leb-true _ _ q5.0;
      bits_fit = q6.0;
      bits_low = bits.0;
      bits_high = bits.1;
      frame_low = frame.0;
      frame_high = frame.1;
      frame_whole = eqb-true _ _ seven.1;
      increment_low = increment.0;
      increment_high = increment.1;
      increment_coprime = eight.1;
    }
