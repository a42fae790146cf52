-- Words that set something are options one after another, and can be read from the front in one way alone.
use Rattle.std.proofs.Common.{◌≡◌, ℕ, ◌<◌, List, [], ◌∷◌, ◌++◌, length, drop, codes, refl, sym, ◌∙◌, ap, arith, append_assoc}
use Rattle.std.proofs.lemmas.List.{append-nil}
use Rattle.std.proofs.Math.Seq.{drop-append_seam}
use Rattle.orders.proofs.Words.{differ, head_same, tail_same}
use Rattle.orders.specs.declared.settings.Settings.{Settings}
use Rattle.orders.specs.declared.slip.Slip.TheVariants.{Setting}
use Rattle.orders.specs.declared.slip.Slip.{Slip}
use Rattle.orders.specs.Slips.{NoOption, lacks, NoOptions}
use Rattle.orders.specs.Settings.{CommandOption, Random, Copy, Table, Score, Takes, OneSet, option_name, word_count, OfSending, OfReceiving, Sets, no_option, one_more}

-- options from the front
pub data Run (allowed : CommandOption → Type 0) : List (List ℕ) → Type 0 where
  end : Run allowed []
  step : {ws rest : List (List ℕ)} (o : CommandOption) (taken : List (List ℕ)) → allowed o → Takes o taken → Run allowed rest → ws ≡ option_name o ∷ (taken ++ rest) → Run allowed ws

pub Run-more : {allowed : CommandOption → Type 0} {ws : List (List ℕ)} → Run allowed ws → (o : CommandOption) (taken : List (List ℕ)) → allowed o → Takes o taken → Run allowed (ws ++ (option_name o ∷ taken))
Run-more end o taken a t = step o taken a t end (sym (ap (λ ws. option_name o ∷ ws) (append-nil taken)))
Run-more (step p own b u run e) o taken a t = step p own b u (Run-more run o taken a t) (rw e (rw append_assoc refl))

pub Run-of_sets : {allowed : CommandOption → Type 0} {ws : List (List ℕ)} {s : Settings} → Sets allowed ws s → Run allowed ws
Run-of_sets no_option = end
Run-of_sets (one_more o taken before a t) = Run-more (Run-of_sets before) o taken a t

pub Takes-count : (o : CommandOption) (taken : List (List ℕ)) → Takes o taken → length taken ≡ word_count o
Takes-count (Random d) taken (blocks, seed, b, s, e) = ap length e
Takes-count (Copy file) taken e = ap length e
Takes-count (Table file) taken e = ap length e
Takes-count (Score kind) taken e = ap length e

same_count : (o p : CommandOption) → option_name o ≡ option_name p → word_count o ≡ word_count p
same_count (Random d) (Random e) h = refl
same_count (Random d) p h = absurd (differ (codes "--random") (option_name p) refl h)
same_count o (Random d) h = absurd (differ (option_name o) (codes "--random") refl h)
same_count o p h = refl

same_rest : (xs ys us vs : List (List ℕ)) → length xs ≡ length ys → xs ++ us ≡ ys ++ vs → us ≡ vs
same_rest xs ys us vs n e =
    sym (drop-append_seam xs us) ∙ ap (λ ws. drop (length xs) ws) e ∙ ap (λ k. drop k (ys ++ vs)) n ∙ drop-append_seam ys vs

next : {allowed : CommandOption → Type 0} {ws : List (List ℕ)} → Run allowed ws → (o : CommandOption) (taken rest : List (List ℕ)) → Takes o taken → ws ≡ option_name o ∷ (taken ++ rest) → Run allowed rest
next end o taken rest t e = cc
next {allowed} (step {rest = after} p own b u run h) o taken rest t e =
    let whole : option_name p ∷ (own ++ after) ≡ option_name o ∷ (taken ++ rest) = sym h ∙ e in
    let name : option_name p ≡ option_name o = head_same whole in
    let words : own ++ after ≡ taken ++ rest = tail_same whole in
    let n : length own ≡ length taken = Takes-count p own u ∙ same_count p o name ∙ sym (Takes-count o taken t) in
    let same : after ≡ rest = same_rest own taken after rest n words in
    rw same at run

-- behind options that set something, options go on as before
pub Run-behind : {allowed : CommandOption → Type 0} {good : List (List ℕ)} {s : Settings} → Sets allowed good s → (bad : List (List ℕ)) → Run allowed (good ++ bad) → Run allowed bad
Run-behind no_option bad run = run
Run-behind (one_more {ws} o taken before a t) bad run =
    next (Run-behind before ((option_name o ∷ taken) ++ bad) (rw append_assoc at run)) o taken bad t refl

-- each option takes a word at least
takes_one : (o : CommandOption) → 0 < word_count o
takes_one (Random d) = omega arith
takes_one (Copy file) = omega arith
takes_one (Table file) = omega arith
takes_one (Score kind) = omega arith

pub NoOption-alone : (allowed : CommandOption → Type 0) (name : List ℕ) → NoOption allowed (name ∷ []) Setting
NoOption-alone allowed name = lacks (λ o a e. takes_one o)

-- what `--random` lacks
short : (o : CommandOption) (n : ℕ) → codes "--random" ≡ option_name o → n < 2 → n < word_count o
short (Random d) n e h = h
short o n e h = absurd (differ (codes "--random") (option_name o) refl e)

pub NoOption-short : (allowed : CommandOption → Type 0) (ws : List (List ℕ)) → length ws < 2 → NoOption allowed (codes "--random" ∷ ws) Setting
NoOption-short allowed ws h = lacks (λ o a e. short o (length ws) e h)

-- a name that is no option's
unknown_to_send : (name : List ℕ) (n : ℕ) → (name ≡ codes "--random" → ⊥) → (name ≡ codes "--copy" → ⊥) → (name ≡ codes "--table" → ⊥) →
    (o : CommandOption) → OfSending o → name ≡ option_name o → n < word_count o
unknown_to_send name n r c t (Random d) a e = absurd (r e)
unknown_to_send name n r c t (Copy file) a e = absurd (c e)
unknown_to_send name n r c t (Table file) a e = absurd (t e)
unknown_to_send name n r c t (Score kind) a e = absurd a

pub NoOption-to_send : (name : List ℕ) (ws : List (List ℕ)) → (name ≡ codes "--random" → ⊥) → (name ≡ codes "--copy" → ⊥) → (name ≡ codes "--table" → ⊥) →
    NoOption OfSending (name ∷ ws) Setting
NoOption-to_send name ws r c t = lacks (unknown_to_send name (length ws) r c t)

unknown_to_receive : (name : List ℕ) (n : ℕ) → (name ≡ codes "--score" → ⊥) → (name ≡ codes "--table" → ⊥) →
    (o : CommandOption) → OfReceiving o → name ≡ option_name o → n < word_count o
unknown_to_receive name n s t (Random d) a e = absurd a
unknown_to_receive name n s t (Copy file) a e = absurd a
unknown_to_receive name n s t (Table file) a e = absurd (t e)
unknown_to_receive name n s t (Score kind) a e = absurd (s e)

pub NoOption-to_receive : (name : List ℕ) (ws : List (List ℕ)) → (name ≡ codes "--score" → ⊥) → (name ≡ codes "--table" → ⊥) →
    NoOption OfReceiving (name ∷ ws) Setting
NoOption-to_receive name ws s t = lacks (unknown_to_receive name (length ws) s t)

-- one option more, or none, or no word more
pub one_step : {allowed : CommandOption → Type 0} {before after : Settings} {words done rest ws left : List (List ℕ)} {name : List ℕ} →
    Sets allowed done before → words ≡ done ++ rest → rest ≡ name ∷ ws → OneSet allowed before name ws after left →
    (x : List (List ℕ)) × Sets allowed x after × (words ≡ x ++ left)
one_step {allowed} {before} {after} {words} {done} {rest} {ws} {left} {name} sets e f (o, a, n, (taken, takes, g), h) =
    (done ++ (option_name o ∷ taken), rw h (one_more o taken sets a takes), rw (e, f, n, g) (rw append_assoc refl))

pub stopped : {allowed : CommandOption → Type 0} {before : Settings} {words done rest ws : List (List ℕ)} {name : List ℕ} {slip : Slip} →
    Sets allowed done before → words ≡ done ++ rest → rest ≡ name ∷ ws → NoOption allowed (name ∷ ws) slip → NoOptions allowed words slip
stopped {words = words} {done = done} {ws = ws} {name = name} sets e f none = (done, name ∷ ws, _, sets, none, e ∙ ap (λ x. done ++ x) f)

pub all_set : {allowed : CommandOption → Type 0} {after : Settings} {words done rest : List (List ℕ)} →
    Sets allowed done after → words ≡ done ++ rest → rest ≡ [] → Sets allowed words after
all_set {words = words} {done = done} sets e f = rw (e, f, append-nil done) sets
