-- An entry is consistent where a test passes that computes at once.
-- Assumes nothing.
use Rattle.std.proofs.Common.{◌≡◌, ℕ, ◌*◌, Bool, true, false, cond, not, ◌&&◌, eqb, sym, refl, subst, ⊎_elim}
use Rattle.std.proofs.lemmas.Bool.{eqb-true, and_parts, and_from, or_cases, false≢true}
use Rattle.plan.specs.Questions.{within, constraint_fits, period_fits, entries_fit, block_fits, sent_fits, bits_fit, frame_fits, increment_fits, plan_answer}
use Rattle.plan.specs.Scheme.{Scheme, sent_length}
use Rattle.rows.specs.Ratios.{ratio}
use Rattle.rows.specs.Schemes.{entry_scheme, is_constraint, Consistent}
use Rattle.rows.specs.declared.row.Entry.{Entry}
use Rattle.rows.proofs.Euclid.{ends_at_one, coprime_from_steps}

-- the eight questions, the last by Euclid's rule: 64 steps are more than any number of the table takes
abbrev pub scheme_passes : Scheme → Bool
scheme_passes s =
    constraint_fits s && (period_fits s && (entries_fit s && (block_fits s && (sent_fits s && (bits_fit s && (frame_fits s
    && (within 1 (sent_length s) s.increment && ends_at_one 64 s.increment (sent_length s))))))))

then_yes : (b : Bool) (n rest : ℕ) → b ≡ true → rest ≡ 0 → cond (not b) n rest ≡ 0
then_yes true n rest t e = e
then_yes false n rest t e = absurd (false≢true t)

pub plan_answer_passes : (s : Scheme) → scheme_passes s ≡ true → plan_answer s ≡ 0
plan_answer_passes s t =
    let q1 = and_parts (constraint_fits s) _ t in
    let q2 = and_parts (period_fits s) _ q1.1 in
    let q3 = and_parts (entries_fit s) _ q2.1 in
    let q4 = and_parts (block_fits s) _ q3.1 in
    let q5 = and_parts (sent_fits s) _ q4.1 in
    let q6 = and_parts (bits_fit s) _ q5.1 in
    let q7 = and_parts (frame_fits s) _ q6.1 in
    let q8 = and_parts (within 1 (sent_length s) s.increment) _ q7.1 in
    let eight = and_from _ _ q8.0 (coprime_from_steps 64 s.increment (sent_length s) q8.1) in
    then_yes (constraint_fits s) 1 _ q1.0
    (then_yes (period_fits s) 2 _ q2.0
    (then_yes (entries_fit s) 3 _ q3.0
    (then_yes (block_fits s) 4 _ q4.0
    (then_yes (sent_fits s) 5 _ q5.0
    (then_yes (bits_fit s) 6 _ q6.0
    (then_yes (frame_fits s) 7 _ q7.0
    (then_yes (increment_fits s) 8 0 eight refl)))))))

-- an entry with one constraint length
abbrev pub passes_with : Entry → ℕ → Bool
passes_with e k = scheme_passes (entry_scheme e k) && eqb (sent_length (entry_scheme e k)) e.sent_length

abbrev pub is_filled : Entry → Bool
is_filled e = eqb (e.frames * e.frame_length * e.symbol_bits) e.sent_length

abbrev pub is_rated : Entry → Bool
is_rated e = eqb (e.block_length * (ratio e.rate).1) (e.sent_length * (ratio e.rate).0)

abbrev pub entry_passes : Entry → Bool
entry_passes e = passes_with e 7 && (passes_with e 9 && (is_filled e && is_rated e))

-- what holds for 7 and for 9 holds for a constraint length
either : (P : ℕ → Type 0) → P 7 → P 9 → (k : ℕ) → is_constraint k ≡ true → P k
either P p7 p9 k t =
    ⊎_elim (λ h. subst P (sym (eqb-true k 7 h)) p7) (λ h. subst P (sym (eqb-true k 9 h)) p9) (or_cases (eqb k 7) (eqb k 9) t)

pub consistent : (e : Entry) → entry_passes e ≡ true → Consistent e
consistent e t =
    let p = and_parts (passes_with e 7) _ t in
    let q = and_parts (passes_with e 9) _ p.1 in
    let seven = and_parts (scheme_passes (entry_scheme e 7)) _ p.0 in
    let nine = and_parts (scheme_passes (entry_scheme e 9)) _ q.0 in
    let rest = and_parts (is_filled e) _ q.1 in
    record {
      passes = either (λ k. plan_answer (entry_scheme e k) ≡ 0) (plan_answer_passes (entry_scheme e 7) seven.0) (plan_answer_passes (entry_scheme e 9) nine.0);
      sends = either (λ k. sent_length (entry_scheme e k) ≡ e.sent_length) (eqb-true _ _ seven.1) (eqb-true _ _ nine.1);
      fills = eqb-true _ _ rest.0;
      rated = eqb-true _ _ rest.1;
    }
