use Rattle.std.proofs.Common.{◌≡◌, ℕ, ◌-◌, ◌*◌, ◌%◌, ◌^◌, ◌≤◌, ◌⊎◌, refl, sym, subst, ⊎_elim, arith}
use Rattle.plan.specs.Parts.{scheme}
use Rattle.plan.specs.Questions.{plan_answer}
use Rattle.plan.proofs.Facts.{facts}
use Rattle.trellis.proofs.trellis.Trellis.of.Goals as goal

-- a row of bytes holds a mark for each state
row_fits : (k : ℕ) → (k ≡ 7) ⊎ (k ≡ 9) → 8 * (1 * 2 ^ (k - 4) % 2 ^ 64) ≡ 2 ^ (k - 1)
row_fits k =
    let Fits : ℕ → Type 0 = λ k. 8 * (1 * 2 ^ (k - 4) % 2 ^ 64) ≡ 2 ^ (k - 1) in
    ⊎_elim (λ e. subst Fits (sym e) refl) (λ e. subst Fits (sym e) refl)

pub invariant_of-result : goal.invariant_of-result
invariant_of-result c =
    let p = c.parts-parts.result.now in
    let f = facts (scheme p) (subst (λ q. plan_answer (scheme q) ≡ 0) (sym c.parts-parts.ensures) c.args.plan.now.accepted) in
    let high : p.constraint ≤ 9 = ⊎_elim (λ e. omega arith) (λ e. omega arith) f.constraint in
    record { small = omega arith; round = omega (arith, f.block_low); long = f.block_high; rows = row_fits p.constraint f.constraint }
