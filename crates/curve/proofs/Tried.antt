-- One block drawn, heard and decoded.
-- Assumes nothing.
use Rattle.std.proofs.Common.{◌≡◌, ℕ, ◌-◌, ◌*◌, ◌/◌, ◌^◌, ◌<◌, Bool, List, length, replicate, Some, Ok, Option, Result, IfOk, IfSome, ℤ, get_or, sym, ap, subst, ◌∙◌, zero-add, lit<, arith}
use Rattle.std.proofs.lemmas.Bool.{cond_below}
use Rattle.std.proofs.lemmas.List.{ext_get_or}
use Rattle.std.proofs.lemmas.List.FromFn.{length-map-range_with_len, get_or-map-range_with_len}
use Rattle.std.proofs.Math.Nat.{mul-div_cancel}
use Rattle.channel.specs.declared.air.Air.{Air}
use Rattle.code.specs.Numbers.{bits_of}
use Rattle.laboratory.specs.Tabling.{first_drawn, OfRegister}
use Rattle.plan.specs.Scheme.{Scheme, sent_length}
use Rattle.receiver.specs.Views.{View}
use Rattle.replay.specs.Given.{given}
use Rattle.replay.specs.Promise.{Promise}
use Rattle.replay.specs.declared.call.Call.{Call}
use Rattle.score.specs.Blocks.{block_score}
use Rattle.score.specs.Kinds.{total_scale}
use Rattle.scrambler.specs.Meaning.{Meaning, reach}
use Rattle.scrambler.specs.Shifts.{drawn}
use Rattle.search.specs.Looking.{Lengths, shown}
use Rattle.search.specs.Searching.{memory}
use Rattle.sender.specs.Scrambling.{needed_width}
use Rattle.sender.specs.Transmission.{symbols, on_air, transmission}
use Rattle.curve.specs.Trials.{enough, register_of, table_of, drawn_block, drawn_indices, values, decoded_block, decoded_score, trial_view, trial_calls, IsTrial}
use Rattle.curve.specs.declared.trial.Trial.{Trial}

-- what `decoded` lends is just enough
pub given_enough : (s : Scheme) (held : List ℤ) (block scores marks : List ℕ) →
    length held ≡ sent_length s → length block ≡ s.block → length scores ≡ 2 ^ memory s * 2 → length marks ≡ s.block * 2 ^ memory s / 8 →
    given held block scores marks ≡ enough s
given_enough s held block scores marks v b c m =
    let n = 2 ^ memory s in
    let half : length scores / 2 ≡ n = ap (λ k. k / 2) c ∙ mul-div_cancel n (lit< tt) in
    let rest : length scores - length scores / 2 ≡ n = omega (arith, c, half) in
    (λ i. record { values = v i; block = b i; old = half i; new = rest i; marks = m i })

-- a table that has the register's values at the places of a frame, and no other
pub of_register : (s : Scheme) (m : Meaning) → OfRegister s m → m ≡ table_of s
of_register s m h =
    let w = needed_width s.bits in
    let long = length-map-range_with_len (drawn w) 0 s.frame in
    let each : (i : ℕ) → i < length m.values → get_or m.values i 0 ≡ get_or (first_drawn w s.frame) i 0 =
    λ i below.
    let near : i < s.frame = omega (arith, h.long, below) in
    let same : Some (get_or m.values i 0) ≡ Some (drawn w i) = cond_below i (reach m) (Some (get_or m.values i 0)) _ below ∙ h.each i near in
    let value : get_or m.values i 0 ≡ drawn w i = cc same in
    value ∙ sym (get_or-map-range_with_len (drawn w) 0 s.frame i i 0 near (zero-add i)) in
    let listed = ext_get_or 0 m.values (first_drawn w s.frame) (h.long ∙ sym long) each in
    (λ i. record { width = h.width i; values = listed i })

-- the parts of a trial
pub trial_made : (s : Scheme) (air : Air) (x : Trial) (v : View) (calls : List Call) →
    x.sent.items ≡ drawn_block s air.generator.state → v ≡ trial_view s → calls ≡ trial_calls s air →
    x.shown.items ≡ shown total_scale v.scheme (values v calls) (replicate v.scheme.block 0) →
    Promise total_scale v (enough v.scheme) calls (bits_of x.shown.items) x.score → IsTrial s air x
unfolding decoded_block decoded_score
trial_made s air x v calls sent view heard bytes p =
    let shown_is : x.shown.items ≡ decoded_block (trial_view s) (trial_calls s air) =
    bytes ∙ (λ i. shown total_scale (view i).scheme (values (view i) (heard i)) (replicate (view i).scheme.block 0)) in
    let P : View → Type 0 = λ w. Promise total_scale w (enough w.scheme) calls (bits_of x.shown.items) x.score in
    let Q : List Call → Type 0 = λ cs. Promise total_scale (trial_view s) (enough s) cs (bits_of x.shown.items) x.score in
    let best = subst Q heard (subst P view p) in
    record {
      sent = sent;
      shown = shown_is;
      score = best.best.scores ∙ ap (λ bs. block_score total_scale s (values (trial_view s) (trial_calls s air)) (bits_of bs)) shown_is;
      best = best;
    }

-- a score that a look gave
pub promised : {E : Type 0} (r : Result ℕ E) (score : ℕ) (v : View) (w l : Lengths) (calls : List Call) (u : ℕ → Bool) →
    IfOk r (λ x. Promise total_scale v w calls u x) → r ≡ Ok score → w ≡ l → Promise total_scale v l calls u score
promised {E} r score v w l calls u p e g =
    let P : Lengths → Type 0 = λ k. Promise total_scale v k calls u score in
    let Q : Result ℕ E → Type 0 = λ q. IfOk q (λ x. Promise total_scale v w calls u x) in
    subst P g (subst Q e p)

-- a fact of the scheme that there is
pub some_scheme : (P : Scheme → Type 0) (o : Option Scheme) (s : Scheme) → Some s ≡ o → P s → IfSome o P
some_scheme P o s e h =
    let Q : Option Scheme → Type 0 = λ q. IfSome q P in
    subst Q e h

pub length_indices : (s : Scheme) (state : ℕ) → length (drawn_indices s state) ≡ symbols s
unfolding transmission
length_indices s state = length-map-range_with_len (on_air s (register_of s) (bits_of (drawn_block s state))) 0 (symbols s)
