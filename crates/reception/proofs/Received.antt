-- Lines that are answered one after the other, and what a writer then holds.
-- Assumes nothing.
use Rattle.std.proofs.Common.{◌≡◌, ℕ, suc, ◌+◌, List, [], ◌∷◌, ◌++◌, length, ℤ, Some, None, Ok, Err, Option, Result, inl, inr, sym, refl, ap, ◌∙◌, subst, append_assoc, arith}
use Rattle.std.proofs.lemmas.List.{append-nil}
use Rattle.std.specs.Result.{OnOk}
use Rattle.entries.specs.Readings.{LineReading}
use Rattle.entries.specs.declared.entry.Entry.{Entry}
use Rattle.entries.specs.declared.entry.Entry.TheVariants.{Look}
use Rattle.entries.proofs.Single.{one_entry, no_idle_entry}
use Rattle.lines.specs.declared.fault.LineFault.{LineFault}
use Rattle.receiver.specs.Views.{View}
use Rattle.score.specs.Scale.{Scale}
use Rattle.search.specs.Looking.{Lengths}
use Rattle.reception.specs.Receiving.{announcement, Begins, Announced, Replied, Received}
use Rattle.reception.specs.declared.written.ScoreText.{ScoreText}

pub always : {X E : Type 0} (r : Result X E) (Q : Type 0) → Q → OnOk r Q
always (Ok x) Q h = h
always (Err e) Q h = tt

-- what is said before a line, by what it was read as
pub begins_look : (bits : ℕ) (line : List ℕ) (said : Result (Option Entry) LineFault) → LineReading line said → said ≡ Ok (Some Look) → Begins bits line (announcement bits)
begins_look bits line said reads is = inl (subst (LineReading line) is reads, refl)

pub begins_none : (bits : ℕ) (line : List ℕ) (said : Result (Option Entry) LineFault) → LineReading line said → (said ≡ Ok (Some Look) → ⊥) → Begins bits line []
begins_none bits line (Ok (Some e)) reads other = inr (λ w. other (ap (λ d. Ok (Some d)) (one_entry line e Look reads w)), refl)
begins_none bits line (Ok None) reads other = inr (λ w. no_idle_entry line Look w reads, refl)
begins_none bits line (Err fault) reads other = inr (reads.1 Look, refl)

-- one line more, and what is said before it
pub announced_more : (bits : ℕ) (lines : List (List ℕ)) (line aside more : List ℕ) → Announced bits lines aside → Begins bits line more → Announced bits (lines ++ (line ∷ [])) (aside ++ more)
announced_more bits [] line aside more h b = (more, [], b, refl, (λ i. h i ++ more) ∙ sym (append-nil more))
announced_more bits (first ∷ lines) line aside more h b = (h.0, h.1 ++ more, h.2, announced_more bits lines line h.1 more h.3 b, (λ i. h.4 i ++ more) ∙ append_assoc h.0 h.1 more)

module _ {S : Type 0} (k : Scale S) (written : S → ScoreText) (v : View) (whole : Lengths) where
  -- one line more
  pub received_more : (n : ℕ) (lines : List (List ℕ)) (line : List ℕ) (values between left : List ℤ) (text more : List ℕ) → Received k written v whole n lines values between text →
      Replied k written v whole (n + length lines) line between left more → Received k written v whole n (lines ++ (line ∷ [])) values left (text ++ more)
  received_more n [] line values between left text more h r = (
    left,
    more,
    [],
    subst (λ m. Replied k written v whole m line values left more) (let e : n + 0 ≡ n = omega arith in e) (subst (λ l. Replied k written v whole (n + 0) line l left more) h.0 r),
    (refl, refl),
    (λ i. h.1 i ++ more) ∙ sym (append-nil more),
  )
  received_more n (first ∷ lines) line values between left text more h r = (
    h.0,
    h.1,
    h.2 ++ more,
    h.3,
    received_more (n + 1) lines line h.0 between left h.2 more h.4 (subst (λ m. Replied k written v whole m line between left more) (let e : n + suc (length lines) ≡ n + 1 + length lines = omega arith in e) r),
    (λ i. h.5 i ++ more) ∙ append_assoc h.1 h.2 more,
  )
