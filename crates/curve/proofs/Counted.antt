-- A trial more.
-- Assumes nothing.
use Rattle.std.proofs.Common.{◌≡◌, ℕ, zero, suc, ◌+◌, ◌<◌, List, [], ◌∷◌, ◌++◌, length, get_or, Some, None, Option, IfSome, ℤ, pos, ◌+ℤ◌, negsuc, ◌≤ℤ◌, true, false, sym, ap, subst, ◌∙◌, ⊎_elim, add-one, length-append, arith}
use Rattle.std.specs.Int.Signed.{le_z, lt_z}
use Rattle.std.specs.Prelude.{T, slice_index_or}
use Rattle.std.proofs.lemmas.Bool.{leb-true, ltb-false, true≢false}
use Rattle.std.proofs.Math.IntN.{+ℤ_assoc, +ℤ_idr}
use Rattle.std.proofs.Math.ListN.{get_or-append}
use Rattle.std.proofs.Math.Nat.{eq-or-lt_of_le}
use Rattle.std.proofs.Math.Seq.{get_or-append_seam}
use Rattle.channel.specs.Airs.{fresh}
use Rattle.channel.specs.declared.air.Air.{Air}
use Rattle.plan.specs.Scheme.{Scheme}
use Rattle.rows.specs.Schemes.{row_scheme}
use Rattle.curve.specs.Dots.{with_trial, trial_air, counted, IsDot}
use Rattle.curve.specs.Trials.{drawn_block, decoded_block, decoded_score, trial_view, trial_calls, next_air, IsTrial}
use Rattle.curve.specs.declared.choice.Run.{Run}
use Rattle.curve.specs.declared.counting.Dot.{Dot}
use Rattle.curve.specs.declared.trial.Trial.{Trial}

-- n trials are counted, and the air is the one that the last of them left
abbrev pub Stands : Air → ℤ → ℕ → Air → Dot → Scheme → Type 0
Stands start decibels n air dot s = (air ≡ trial_air s start n) × (dot ≡ counted s start decibels n)

stands_more : (s : Scheme) (start air next : Air) (decibels : ℤ) (n : ℕ) (dot more : Dot) (x : Trial) →
    Stands start decibels n air dot s → IsTrial s air x → next ≡ next_air s air → more ≡ with_trial dot x.sent.items x.shown.items x.score →
    Stands start decibels (n + 1) next more s
stands_more s start air next decibels n dot more x h t a d =
    let one = add-one n in
    let sent = t.sent ∙ ap (λ a. drawn_block s a.generator.state) h.0 in
    let shown = t.shown ∙ ap (λ a. decoded_block (trial_view s) (trial_calls s a)) h.0 in
    let score = t.score ∙ ap (λ a. decoded_score (trial_view s) (trial_calls s a)) h.0 in
    let counted_here : with_trial dot x.sent.items x.shown.items x.score ≡ counted s start decibels (suc n) = λ i. with_trial (h.1 i) (sent i) (shown i) (score i) in (
      a ∙ ap (next_air s) h.0 ∙ ap (trial_air s start) (sym one),
      d ∙ counted_here ∙ ap (counted s start decibels) (sym one),
    )

pub one_more : (o : Option Scheme) (start air next : Air) (decibels : ℤ) (n : ℕ) (dot more : Dot) (x : Trial) →
    IfSome o (Stands start decibels n air dot) → IfSome o (λ s. IsTrial s air x) → IfSome o (λ s. next ≡ next_air s air) →
    more ≡ with_trial dot x.sent.items x.shown.items x.score → IfSome o (Stands start decibels (n + 1) next more)
one_more None start air next decibels n dot more x h t a d = tt
one_more (Some s) start air next decibels n dot more x h t a d = stands_more s start air next decibels n dot more x h t a d

-- each dot so far is that of its ratio
abbrev pub EachDot : Run → List Dot → Type 0
EachDot run dots = (i : ℕ) (d : Dot) → i < length dots → IsDot run (run.from +ℤ pos i) (slice_index_or dots i d)

pub each_more : (run : Run) (dots : List Dot) (x : ℤ) (dot : Dot) → x ≡ run.from +ℤ pos (length dots) → IsDot run x dot → EachDot run dots → EachDot run (dots ++ dot ∷ [])
each_more run dots x dot e one each i d h =
    let size : length (dots ++ dot ∷ []) ≡ length dots + 1 = length-append dots (dot ∷ []) in
    let P : Dot → Type 0 = IsDot run (run.from +ℤ pos i) in
    ⊎_elim
    (λ same.
    let here = ap (λ k. get_or (dots ++ dot ∷ []) k d) same ∙ get_or-append_seam dots dot [] d in
    subst P (sym here) (subst (λ y. IsDot run y dot) (e ∙ ap (λ k. run.from +ℤ pos k) (sym same)) one))
    (λ near. subst P (sym (get_or-append dots (dot ∷ []) d i near)) (each i d near))
    (eq-or-lt_of_le {n = i} {m = length dots} (omega (arith, h, size)))

-- the ratio behind the first k
pub next_ratio : (from : ℤ) (k : ℕ) → from +ℤ pos k +ℤ pos 1 ≡ from +ℤ pos (k + 1)
next_ratio from k = +ℤ_assoc from (pos k) (pos 1)

-- past the last ratio there is none
pub no_more : (a b z : ℤ) (k : ℕ) → z ≡ a +ℤ pos k → (0 < k → z ≤ℤ b) → le_z z b ≡ false → a ≤ℤ b → ⊥
no_more a b z zero e w past h =
    let under : z ≤ℤ b = subst (λ y. y ≤ℤ b) (sym (e ∙ +ℤ_idr a)) h in
    subst T past under.le
no_more a b z (suc k) e w past h = let under : z ≤ℤ b = w (omega arith) in subst T past under.le

-- the last ratio is the run's last
pub last_is : (a b : ℤ) → le_z a b ≡ true → lt_z a b ≡ false → a ≡ b
last_is (pos a) (pos b) h k = let same : a ≡ b = omega (arith, leb-true a b h, ltb-false a b k) in ap pos same
last_is (pos a) (negsuc b) h k = absurd (true≢false (sym h))
last_is (negsuc a) (pos b) h k = absurd (true≢false k)
last_is (negsuc a) (negsuc b) h k = let same : a ≡ b = omega (arith, leb-true b a h, ltb-false b a k) in ap negsuc same

-- a fact of every scheme, and a weaker fact
pub always : (P : Scheme → Type 0) (o : Option Scheme) → ((s : Scheme) → P s) → IfSome o P
always P None f = tt
always P (Some s) f = f s

weaker : (P Q : Scheme → Type 0) (o : Option Scheme) → ((s : Scheme) → P s → Q s) → IfSome o P → IfSome o Q
weaker P Q None f h = tt
weaker P Q (Some s) f h = f s h

-- all trials are counted
pub finished : (run : Run) (decibels : ℤ) (start air : Air) (n : ℕ) (dot : Dot) → n ≡ run.blocks → start ≡ fresh run.seed decibels →
    IfSome (row_scheme run.choice.row run.choice.constraint) (Stands start decibels n air dot) → IsDot run decibels dot
finished run decibels start air n dot e begun h =
    weaker (Stands start decibels n air dot) (λ s. dot ≡ counted s (fresh run.seed decibels) decibels run.blocks)
    (row_scheme run.choice.row run.choice.constraint) (λ s k. k.1 ∙ (λ i. counted s (begun i) decibels (e i))) h
