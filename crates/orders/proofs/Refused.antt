-- Where something is told of words, they are no order's.
use Rattle.std.proofs.Common.{◌≡◌, ℕ, ◌+◌, ◌<◌, List, [], ◌∷◌, ◌++◌, length, codes, Result, Ok, Err, IfErr, refl, sym, ◌∙◌, ap, arith, inl, inr, length-append}
use Rattle.orders.specs.Words.{score_word}
use Rattle.orders.specs.Settings.{CommandOption, Random, Score, option_name, word_count, Sets}
use Rattle.orders.specs.Orders.{BeginsWith, first_word, NoOrder}
use Rattle.orders.specs.Slips.{FirstNoNumber, drawing_names, NoRow, NoOption, lacks, numbers, kind, NoOptions, Tells, no_word, other_word, rows_words, plan_row, plan_words, send_row, send_options, receive_row, receive_options, count_files, Reading}
use Rattle.orders.specs.declared.order.Choice.{Choice}
use Rattle.orders.specs.declared.settings.Settings.{Settings}
use Rattle.orders.specs.declared.order.ScoreKind.{ScoreKind}
use Rattle.orders.specs.declared.order.Order.{Order}
use Rattle.orders.specs.declared.order.Order.TheVariants.{Rows, Plan, Send, Receive, Count}
use Rattle.orders.specs.declared.slip.Slip.{Slip}
use Rattle.orders.specs.declared.slip.Slip.TheVariants.{Word}
use Rattle.orders.proofs.Words.{differ, head_same, tail_same}
use Rattle.orders.proofs.Options.{Run, end, step, Run-of_sets, Run-behind, Takes-count}

no_option_lacking : {allowed : CommandOption → Type 0} {words : List (List ℕ)} → Run allowed words → (name : List ℕ) (ws : List (List ℕ)) → words ≡ name ∷ ws →
    ((o : CommandOption) → allowed o → name ≡ option_name o → length ws < word_count o) → ⊥
no_option_lacking end name ws e f = cc
no_option_lacking (step {rest = rest} p own b u run h) name ws e f =
    let whole : name ∷ ws ≡ option_name p ∷ (own ++ rest) = sym e ∙ h in
    let same : name ≡ option_name p = head_same whole in
    let words : ws ≡ own ++ rest = tail_same whole in
    let few : length ws < word_count p = f p b same in
    let n : length own ≡ word_count p = Takes-count p own u in
    let m : length ws ≡ length own + length rest = ap length words ∙ length-append own rest in
    omega arith

no_drawing : {allowed : CommandOption → Type 0} {words : List (List ℕ)} → Run allowed words → (blocks seed : List ℕ) (ws : List (List ℕ)) (slip : Slip) → words ≡ codes "--random" ∷ blocks ∷ seed ∷ ws →
    FirstNoNumber drawing_names (blocks ∷ seed ∷ []) slip → ⊥
no_drawing end blocks seed ws slip e f = cc
no_drawing (step {rest = rest} (Random d) own b (blocks', seed', x, y, e') run h) blocks seed ws slip e f =
    let words : blocks' ∷ seed' ∷ rest ≡ blocks ∷ seed ∷ ws = sym (ap (λ o. o ++ rest) e') ∙ tail_same (sym h ∙ e) in
    let first : blocks' ≡ blocks = head_same words in
    let second : seed' ≡ seed = head_same (tail_same words) in
    let x' = rw first at x in
    let y' = rw second at y in
    elim f [ inl a ↦ a.0 d.blocks x' | inr r ↦ elim r.2 [ inl a ↦ a.0 d.seed y' | inr r ↦ r.2 ] ]
no_drawing (step o own b u run h) blocks seed ws slip e f = differ (option_name o) (codes "--random") refl (head_same (sym h ∙ e))

no_kind : {allowed : CommandOption → Type 0} {words : List (List ℕ)} → Run allowed words → (word : List ℕ) (ws : List (List ℕ)) → words ≡ codes "--score" ∷ word ∷ ws →
    ((k : ScoreKind) → score_word k ≡ word → ⊥) → ⊥
no_kind end word ws e f = cc
no_kind (step {rest = rest} (Score k) own b u run h) word ws e f =
    f k (head_same (sym (ap (λ o. o ++ rest) u) ∙ tail_same (sym h ∙ e)))
no_kind (step o own b u run h) word ws e f = differ (option_name o) (codes "--score") refl (head_same (sym h ∙ e))

no_option_first : {allowed : CommandOption → Type 0} {bad : List (List ℕ)} {slip : Slip} → NoOption allowed bad slip → Run allowed bad → ⊥
no_option_first (lacks {name} {ws} f) run = no_option_lacking run name ws refl f
no_option_first (numbers {blocks} {seed} {ws} {slip} d f) run = no_drawing run blocks seed ws slip refl f
no_option_first (kind {word} {ws} k f) run = no_kind run word ws refl f

no_options : {allowed : CommandOption → Type 0} (ws : List (List ℕ)) (slip : Slip) → NoOptions allowed ws slip → (s : Settings) → Sets allowed ws s → ⊥
no_options ws slip (good, bad, t, set, wrong, e) s sets = no_option_first wrong (Run-behind set bad (rw e at (Run-of_sets sets)))

no_row : (ws rest : List (List ℕ)) (slip : Slip) (c : Choice) → NoRow ws slip → BeginsWith c ws rest → ⊥
no_row ws rest slip c (inl few) (a, b, i, k, names, e) = let n = ap length e in omega (arith, few.0)
no_row ws rest slip c (inr first) (a, b, i, k, names, e) =
    let f = rw e at first.1 in
    elim f [
      | inl h ↦ h.0 _ names.bandwidth_word
      | inr h ↦ elim h.2 [
        | inl h ↦ h.0 _ names.waveform_word
        | inr h ↦ elim h.2 [
          | inl h ↦ h.0 _ names.interleaver_word
          | inr h ↦ elim h.2 [
            | inl h ↦ h.0 _ names.constraint_word
            | inr h ↦ h.2
          ]
        ]
      ]
    ]

same_rest : (ws x y : List (List ℕ)) (c d : Choice) → BeginsWith c ws x → BeginsWith d ws y → x ≡ y
same_rest ws x y c d (a, b, i, k, names, e) (a', b', i', k', names', e') = tail_same (tail_same (tail_same (tail_same (sym e ∙ e'))))

pub none_told : {ws : List (List ℕ)} {slip : Slip} → Tells ws slip → NoOrder ws
none_told no_word o (rest, e, f) = cc
none_told (other_word g) o (rest, e, f) = g o (head_same e)
none_told (rows_words more) Rows (rest, e, f) = more (tail_same e ∙ f)
none_told (rows_words more) o (rest, e, f) = differ (codes "rows") (first_word o) refl (head_same e)
none_told (plan_row {ws} {slip} wrong) (Plan c) (rest, e, f) = let same : ws ≡ rest = tail_same e in no_row ws [] slip c wrong (rw same f)
none_told (plan_row wrong) o (rest, e, f) = differ (codes "plan") (first_word o) refl (head_same e)
none_told (plan_words {ws} {more} c begins not) (Plan d) (rest, e, f) = let same : ws ≡ rest = tail_same e in not (same_rest ws more [] c d begins (rw same f))
none_told (plan_words c begins not) o (rest, e, f) = differ (codes "plan") (first_word o) refl (head_same e)
none_told (send_row {ws} {slip} wrong) (Send c s) (rest, e, (options, begins, sets)) =
    let same : ws ≡ rest = tail_same e in no_row ws options slip c wrong (rw same begins)
none_told (send_row wrong) o (rest, e, f) = differ (codes "send") (first_word o) refl (head_same e)
none_told (send_options {ws} {options} {slip} c begins wrong) (Send d s) (rest, e, (others, begins', sets)) =
    let same : ws ≡ rest = tail_same e in
    let equal : options ≡ others = same_rest ws options others c d begins (rw same begins') in
    no_options options slip wrong s (rw equal sets)
none_told (send_options c begins wrong) o (rest, e, f) = differ (codes "send") (first_word o) refl (head_same e)
none_told (receive_row {ws} {slip} wrong) (Receive c s) (rest, e, (options, begins, sets)) =
    let same : ws ≡ rest = tail_same e in no_row ws options slip c wrong (rw same begins)
none_told (receive_row wrong) o (rest, e, f) = differ (codes "receive") (first_word o) refl (head_same e)
none_told (receive_options {ws} {options} {slip} c begins wrong) (Receive d s) (rest, e, (others, begins', sets)) =
    let same : ws ≡ rest = tail_same e in
    let equal : options ≡ others = same_rest ws options others c d begins (rw same begins') in
    no_options options slip wrong s (rw equal sets)
none_told (receive_options c begins wrong) o (rest, e, f) = differ (codes "receive") (first_word o) refl (head_same e)
none_told (count_files {ws} not) (Count sent shown) (rest, e, f) = let same : ws ≡ rest = tail_same e in not (ap length same ∙ ap length f)
none_told (count_files not) o (rest, e, f) = differ (codes "count") (first_word o) refl (head_same e)

pub refused : (ws vs : List (List ℕ)) (r : Result Order Slip) → ws ≡ vs → Reading vs r → IfErr r (λ _. NoOrder ws)
refused ws vs (Ok o) e h = tt
refused ws vs (Err slip) e h = rw e (none_told h)

-- a first word that is no order's
unknown : (word : List ℕ) → (word ≡ codes "rows" → ⊥) → (word ≡ codes "plan" → ⊥) → (word ≡ codes "send" → ⊥) → (word ≡ codes "receive" → ⊥) → (word ≡ codes "count" → ⊥) →
    (o : Order) → word ≡ first_word o → ⊥
unknown word r p s v k Rows e = r e
unknown word r p s v k (Plan c) e = p e
unknown word r p s v k (Send c x) e = s e
unknown word r p s v k (Receive c x) e = v e
unknown word r p s v k (Count x y) e = k e

pub Tells-word : (word : List ℕ) (ws : List (List ℕ)) → (word ≡ codes "rows" → ⊥) → (word ≡ codes "plan" → ⊥) → (word ≡ codes "send" → ⊥) → (word ≡ codes "receive" → ⊥) → (word ≡ codes "count" → ⊥) →
    Tells (word ∷ ws) Word
Tells-word word ws r p s v k = other_word (unknown word r p s v k)
