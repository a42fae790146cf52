-- What a search knows after a pass: who leads, and which numbers can't win.
-- Assumes nothing.
use Rattle.std.proofs.Common.{◌≡◌, ℕ, ◌^◌, ◌<◌, ◌≤◌, Bool, true, false, cond, not, ◌&&◌, List, length, replicate, get_or, sym, ap, ◌∙◌, subst, ⊎_elim, arith, pow_mono}
use Rattle.std.proofs.lemmas.Bool.{cases_Bool, cond-true, cond-false, true≢false, and_parts, not-false, not-true, eqb-true}
use Rattle.std.proofs.lemmas.List.{get_or-replicate}
use Rattle.plan.specs.Plans.{plan_scheme}
use Rattle.score.specs.Blocks.{value_at}
use Rattle.score.specs.Scale.{Lawful}
use Rattle.score.specs.declared.kind.Kind.{Ghosts}
use Rattle.trellis.specs.Bounds.{shares, ahead, Leads}
use Rattle.trellis.specs.Choice.{origin, final}
use Rattle.trellis.specs.Marks.{marked}
use Rattle.trellis.specs.Steps.{Steps, Ordered}
use Rattle.trellis.specs.Survivors.{prefix, survivor, mark}
use Rattle.trellis.proofs.Bounds.{ahead_itself, ahead_other, ahead_trans, ahead_of_worse, survivor_bounds, closed_bounds}
use Rattle.trellis.proofs.Columns.{origin_same}
use Rattle.search.specs.Choosing.{may_win, Closed, takes_lead, Knows}
use Rattle.search.specs.Searching.{column}
use Rattle.search.specs.Stepping.{scale_of, steps_of}
use Rattle.search.specs.declared.pass.Pass.{Pass}
use Rattle.search.proofs.Finding.{ordered}

-- there are at most 256 states
pub states_few : (m : ℕ) → m ≤ 8 → 2 ^ m ≤ 256
states_few m l = pow_mono {i = m} {j = 8} l

module _ {S : Type 0} (steps : Steps S) (o : Ordered steps) (score : S) (lead : ℕ) (s : S) (number : ℕ) where
  -- who leads after a challenge comes before both
  pub challenge_ahead : (score' : S) (lead' : ℕ) → lead' ≡ cond (ahead steps.no_worse score lead s number) lead number → score' ≡ cond (ahead steps.no_worse score lead s number) score s →
      (ahead steps.no_worse score' lead' s number ≡ true) × (ahead steps.no_worse score' lead' score lead ≡ true)
  challenge_ahead score' lead' p q =
      let stays : ahead steps.no_worse score lead s number ≡ true → (score' ≡ score) × (lead' ≡ lead) = λ e. (q ∙ cond-true _ _ _ e, p ∙ cond-true _ _ _ e) in
      let goes : ahead steps.no_worse score lead s number ≡ false → (score' ≡ s) × (lead' ≡ number) = λ e. (q ∙ cond-false _ _ _ e, p ∙ cond-false _ _ _ e) in
      ⊎_elim
      (λ e. let h = stays e in (
        ap (λ a. ahead steps.no_worse a lead' s number) h.0 ∙ ap (λ i. ahead steps.no_worse score i s number) h.1 ∙ e,
        ap (λ a. ahead steps.no_worse a lead' score lead) h.0 ∙ ap (λ i. ahead steps.no_worse score i score lead) h.1 ∙ ahead_itself steps o score lead,
      ))
      (λ e. let h = goes e in (
        ap (λ a. ahead steps.no_worse a lead' s number) h.0 ∙ ap (λ i. ahead steps.no_worse s i s number) h.1 ∙ ahead_itself steps o s number,
        ap (λ a. ahead steps.no_worse a lead' score lead) h.0 ∙ ap (λ i. ahead steps.no_worse s i score lead) h.1 ∙ ahead_other steps o score s lead number e,
      ))
      (cases_Bool (ahead steps.no_worse score lead s number))

  -- and stays before every number that the leader came before
  pub challenge_leads : (m size : ℕ) (left : ℕ → Bool) (score' : S) (lead' : ℕ) → number < 2 ^ m → steps.no_worse (final steps m size number) s ≡ true →
      lead' ≡ cond (ahead steps.no_worse score lead s number) lead number → score' ≡ cond (ahead steps.no_worse score lead s number) score s →
      Leads steps m size lead score left → Leads steps m size lead' score' left
  challenge_leads m size left score' lead' l own p q h =
      let b = ahead steps.no_worse score lead s number in
      record {
        low = ⊎_elim (λ e. subst (λ i. i < 2 ^ m) (sym (p ∙ cond-true b _ _ e)) h.low) (λ e. subst (λ i. i < 2 ^ m) (sym (p ∙ cond-false b _ _ e)) l) (cases_Bool b);
        own = ⊎_elim
            (λ e. subst (λ a. steps.no_worse (final steps m size lead') a ≡ true) (sym (q ∙ cond-true b _ _ e))
            (subst (λ i. steps.no_worse (final steps m size i) score ≡ true) (sym (p ∙ cond-true b _ _ e)) h.own))
            (λ e. subst (λ a. steps.no_worse (final steps m size lead') a ≡ true) (sym (q ∙ cond-false b _ _ e))
            (subst (λ i. steps.no_worse (final steps m size i) s ≡ true) (sym (p ∙ cond-false b _ _ e)) own))
            (cases_Bool b);
        before = λ x k e. ahead_trans steps o score' score (final steps m size x) lead' lead x (challenge_ahead score' lead' p q).1 (h.before x k e);
      }

module _ {K S : Type 0} {g : Ghosts K S} (p : Pass K S g) where
  -- what a pass leaves that holds the first bits of a number
  pub record Swept (held number : ℕ) (before : List S) (marks : List ℕ) : Type 0 where
    pub scored : (s : ℕ) → s < 2 ^ p.trellis.memory → column (scale_of p) before s ≡ survivor (steps_of p) p.trellis.memory (prefix p.trellis.memory held number) p.trellis.size s
    pub kept : (t s : ℕ) → t < p.trellis.size → s < 2 ^ p.trellis.memory → marked p.trellis.memory marks t s ≡ mark (steps_of p) p.trellis.memory (prefix p.trellis.memory held number) t s

  -- where every number may win, a leader need not come before any
  pub all_left : (lead : ℕ) (score : S) (left : List Bool) → left ≡ replicate 256 true → lead < 2 ^ p.trellis.memory →
      (steps_of p).no_worse (final (steps_of p) p.trellis.memory p.trellis.size lead) score ≡ true → Knows p lead score left
  all_left lead score left e l own = record {
    low = l;
    own = own;
    before = λ x k f. absurd (true≢false (sym (ap (λ xs. get_or xs x false) e ∙ get_or-replicate 256 x true false (omega (arith, states_few p.trellis.memory p.trellis.small))) ∙ f));
  }

  module _ (law : Lawful (scale_of p)) where
    pub order : Ordered (steps_of p)
    order = ordered (scale_of p) (plan_scheme p.plan.now) (value_at p.values.now) law

    round : p.trellis.memory ≤ p.trellis.size
    round = let r = p.trellis.round in omega arith

    -- a number whose survivor is behind the leader can't win
    pub known_closed : (held number lead : ℕ) (score : S) (before : List S) (marks : List ℕ) (left left' : List Bool) → held ≤ p.trellis.memory → Swept held number before marks →
        Closed p held number lead score before left left' → Knows p lead score left → Knows p lead score left'
    known_closed held number lead score before marks left left' h swept closed k =
        let st = steps_of p in
        let m = p.trellis.memory in
        record {
          low = k.low;
          own = k.own;
          before = λ x l e. ⊎_elim
              (λ stood.
              let both = not-false _ (sym (ap (λ b. b && not (shares m held number x && ahead (scale_of p).no_worse score lead (column (scale_of p) before x) x)) stood) ∙ sym (closed x l) ∙ e) in
              let b = and_parts _ _ both in
              ahead_of_worse st order score (column (scale_of p) before x) (final st m p.trellis.size x) lead x b.1
              (subst (λ s. st.no_worse s (final st m p.trellis.size x) ≡ true) (sym (swept.scored x l)) (survivor_bounds st order m p.trellis.size round held number x h l b.0)))
              (λ gone. k.before x l gone)
              (cases_Bool (may_win left x));
        }

    -- a survivor that comes round is a score that its number's own is no worse than
    pub round_leads : (held number end : ℕ) (before : List S) (marks : List ℕ) → end < 2 ^ p.trellis.memory → Swept held number before marks →
        origin p.trellis.memory (marked p.trellis.memory marks) p.trellis.size end ≡ end →
        (steps_of p).no_worse (final (steps_of p) p.trellis.memory p.trellis.size end) (column (scale_of p) before end) ≡ true
    round_leads held number end before marks l swept closed =
        let st = steps_of p in
        let m = p.trellis.memory in
        subst (λ s. st.no_worse (final st m p.trellis.size end) s ≡ true) (sym (swept.scored end l))
        (closed_bounds st order m p.trellis.size round (prefix m held number) end l
        (sym (origin_same m (marked m marks) (mark st m (prefix m held number)) p.trellis.size end l swept.kept) ∙ closed))

    -- who leads after a pass
    pub known_after : (held number end lead lead' : ℕ) (score score' : S) (before : List S) (marks : List ℕ) (left : List Bool) → end < 2 ^ p.trellis.memory → Swept held number before marks →
        lead' ≡ cond (takes_lead p end lead score before marks) end lead → score' ≡ cond (takes_lead p end lead score before marks) (column (scale_of p) before end) score →
        Knows p lead score left → Knows p lead' score' left
    known_after held number end lead lead' score score' before marks left l swept p' q k =
        let st = steps_of p in
        let m = p.trellis.memory in
        let s = column (scale_of p) before end in
        ⊎_elim
        (λ takes.
        let parts = and_parts _ _ takes in
        let behind : ahead st.no_worse score lead s end ≡ false = not-true _ parts.1 in
        challenge_leads st order score lead s end m p.trellis.size (may_win left) score' lead' l (round_leads held number end before marks l swept (eqb-true _ _ parts.0))
        (p' ∙ cond-true _ _ _ takes ∙ sym (cond-false _ _ _ behind)) (q ∙ cond-true _ _ _ takes ∙ sym (cond-false _ _ _ behind)) k)
        (λ stays. subst (λ a. Leads st m p.trellis.size lead' a (may_win left)) (sym (q ∙ cond-false _ _ _ stays))
        (subst (λ i. Leads st m p.trellis.size i score (may_win left)) (sym (p' ∙ cond-false _ _ _ stays)) k))
        (cases_Bool (takes_lead p end lead score before marks))
