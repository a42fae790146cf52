-- The call that last touched a symbol decides its values.
-- Assumes nothing.
use Rattle.std.proofs.Common.{◌≡◌, ℕ, ◌+◌, ◌*◌, ◌/◌, ◌<◌, Bool, true, false, cond, ◌&&◌, ◌≢◌, List, [], ◌∷◌, length, get_or, replicate, ℤ, pos, negsuc, Some, None, Option, unwrap_or, sym, refl, ap, ◌∙◌, subst, arith}
use Rattle.std.specs.Int.{int_max}
use Rattle.std.proofs.lemmas.Nat.{div-mul-add}
use Rattle.std.proofs.lemmas.List.{length-set, length-replicate, get_or-set_other}
use Rattle.std.proofs.lemmas.Bool.{cond_both, eqb-true, eqb-false}
use Rattle.plan.specs.Questions.{plan_answer}
use Rattle.plan.specs.Scheme.{Scheme, sent_length}
use Rattle.plan.proofs.Facts.{facts}
use Rattle.code.specs.Mapping.{symbol_at, number_of}
use Rattle.code.specs.Numbers.{num, read, bit_of}
use Rattle.code.proofs.Blocks.{num_below}
use Rattle.code.proofs.Maps.{inverts}
use Rattle.code.proofs.Windows.{bit_num}
use Rattle.scrambler.specs.Meaning.{Bounded}
use Rattle.sender.specs.Transmission.{symbols, value_for, index_at, on_air, sent_array}
use Rattle.sender.proofs.Apart.{symbol_below, value_below}
use Rattle.sender.proofs.Back.{comes_back}
use Rattle.score.specs.Blocks.{value_at}
use Rattle.search.specs.Looking.{Lengths}
use Rattle.receiver.specs.Calls.{view_fits}
use Rattle.receiver.specs.Values.{signed, heard}
use Rattle.receiver.specs.Views.{View}
use Rattle.replay.specs.declared.call.Call.{Call}
use Rattle.replay.specs.declared.call.Call.TheVariants.{Hear, Note, Blank, Look}
use Rattle.replay.specs.Heard.{touches, last_after, last_touching, HeardExactly}
use Rattle.replay.specs.Ledger.{accepted, changed, after, after_all, ledger}
use Rattle.replay.proofs.Loaded.{symbol_ends}
use Rattle.replay.proofs.Signs.{Says, signed_says}
use Rattle.replay.proofs.Stretches.{with_long, with_outside, with_inside}

module _ (v : View) (whole : Lengths) where
  changed_long : (c : Call) (values : List ℤ) → length (changed v whole c values) ≡ length values
  changed_long (Hear lent place index weight) values = with_long _ _ values v.scheme.bits
  changed_long (Note lent location value) values = length-set values location value
  changed_long (Blank lent place) values = with_long _ _ values v.scheme.bits
  changed_long (Look lent) values = refl

  -- a call keeps the number of values
  pub after_long : (c : Call) (values : List ℤ) → length (after v whole c values) ≡ length values
  after_long c values = cond_both (accepted v whole c) _ _ (λ l. length l ≡ length values) (λ _. changed_long c values) (λ _. refl)

-- the locations of two symbols lie apart
symbols_apart : (q place i j k : ℕ) → j < q → k < q → place ≢ i → i * q + j ≢ place * q + k
symbols_apart q place i j k hj hk ne e = ne (sym (div-mul-add place q k hk) ∙ ap (λ l. l / q) (sym e) ∙ div-mul-add i q j hj)

-- a call that does not touch a symbol leaves its values
untouched : (v : View) (whole : Lengths) (c : Call) (values : List ℤ) (i j : ℕ) (d : ℤ) → j < v.scheme.bits → touches v.scheme i c ≡ false → get_or (changed v whole c values) (i * v.scheme.bits + j) d ≡ get_or values (i * v.scheme.bits + j) d
untouched v whole (Hear lent place index weight) values i j d h t =
    with_outside _ _ values v.scheme.bits _ d (λ k hk. symbols_apart v.scheme.bits place i j k h hk (eqb-false place i t))
untouched v whole (Note lent location value) values i j d h t =
    get_or-set_other values location _ value d (λ e. eqb-false (location / v.scheme.bits) i t (ap (λ l. l / v.scheme.bits) (sym e) ∙ div-mul-add i v.scheme.bits j h))
untouched v whole (Blank lent place) values i j d h t =
    with_outside _ _ values v.scheme.bits _ d (λ k hk. symbols_apart v.scheme.bits place i j k h hk (eqb-false place i t))
untouched v whole (Look lent) values i j d h t = refl

module _ (v : View) (ok : plan_answer v.scheme ≡ 0) (bounded : Bounded v.meaning) (fit : view_fits v ≡ true) (w : ℕ → Bool) (i : ℕ) (below : i < symbols v.scheme) where
  abbrev s : Scheme
  s = v.scheme

  abbrev q : ℕ
  q = v.scheme.bits

  -- the bits that the block has at the symbol's locations
  abbrev sent : ℕ → Bool
  sent j = read (sent_array s w) (i * q + j)

  -- each value of the symbol says the bit that the block has there
  abbrev Shown : List ℤ → Type 0
  Shown values = (j : ℕ) → j < q → Says (value_at values (i * q + j)) (sent j)

  -- what was sent is heard
  number_heard : heard v i (on_air s v.meaning w i) ≡ Some (num (read (sent_array s w)) q (i * q))
  unfolding index_at symbol_at
  number_heard =
      let low = value_below s ok v.meaning bounded fit i in
      ap (number_of q) (comes_back q (symbol_at s (sent_array s w) i) (value_for s v.meaning i) (symbol_below s (sent_array s w) i) low).1
      ∙ (inverts q (facts s ok).bits_low).undoes (num (read (sent_array s w)) q (i * q)) (num_below (read (sent_array s w)) q (i * q))

  bit_heard : (j : ℕ) → j < q → bit_of q (unwrap_or (heard v i (on_air s v.meaning w i)) 0) j ≡ sent j
  bit_heard j h = ap (λ o. bit_of q (unwrap_or o 0) j) number_heard ∙ bit_num (read (sent_array s w)) q (i * q) j h

  module _ (whole : Lengths) where
    -- a call that heard the symbol exactly shows it
    now_shown : (c : Call) (values : List ℤ) → length values ≡ sent_length s → touches s i c ≡ true → HeardExactly v whole w i (Some c) → Shown (changed v whole c values)
    now_shown (Hear lent place index weight) values long t heard_so j h =
        let here = eqb-true place i t in
        let value : get_or (changed v whole (Hear lent place index weight) values) (i * q + j) (pos 0) ≡ signed weight (sent j) =
        (λ x. get_or (changed v whole (Hear lent (here x) (heard_so.0 x) weight) values) (i * q + j) (pos 0))
        ∙ with_inside (i * q) _ values q j (pos 0) h (omega (arith, symbol_ends s (facts s ok) i below))
        ∙ ap (signed weight) (bit_heard j h) in
        subst (λ x. Says (int_max x (negsuc 32766)) (sent j)) (sym value) (signed_says weight (sent j) heard_so.1)
    now_shown (Note lent location value) values long t heard_so j h = absurd heard_so
    now_shown (Blank lent place) values long t heard_so j h = absurd heard_so
    now_shown (Look lent) values long t heard_so j h = absurd heard_so

    still_shown : (c : Call) (values : List ℤ) → touches s i c ≡ false → Shown values → Shown (changed v whole c values)
    still_shown c values t shown j h = subst (λ x. Says (int_max x (negsuc 32766)) (sent j)) (sym (untouched v whole c values i j (pos 0) h t)) (shown j h)

    -- one call more, by whether it touches the symbol and is accepted
    shown_by : (touching yes_said : Bool) (c : Call) (before : Option Call) (values : List ℤ) → length values ≡ sent_length s → touches s i c ≡ touching → (HeardExactly v whole w i before → Shown values) → HeardExactly v whole w i (cond (touching && yes_said) (Some c) before) → Shown (cond yes_said (changed v whole c values) values)
    shown_by true true c before values long t was h = now_shown c values long t h
    shown_by true false c before values long t was h = was h
    shown_by false true c before values long t was h = still_shown c values t (was h)
    shown_by false false c before values long t was h = was h

    shown_after : (calls : List Call) (before : Option Call) (values : List ℤ) → length values ≡ sent_length s → (HeardExactly v whole w i before → Shown values) → HeardExactly v whole w i (last_after v whole i before calls) → Shown (after_all v whole calls values)
    shown_after [] before values long was h = was h
    shown_after (c ∷ cs) before values long was h =
        shown_after cs (cond (touches s i c && accepted v whole c) (Some c) before) (after v whole c values) (after_long v whole c values ∙ long)
        (shown_by (touches s i c) (accepted v whole c) c before values long refl was) h

    -- a symbol that was last heard exactly has the block's bits in the ledger
    pub shown_in_ledger : (calls : List Call) → HeardExactly v whole w i (last_touching v whole i calls) → Shown (ledger v whole calls)
    unfolding ledger
    shown_in_ledger calls h = shown_after calls None (replicate (sent_length s) (pos 0)) (length-replicate (sent_length s) (pos 0)) (λ none. absurd none) h
