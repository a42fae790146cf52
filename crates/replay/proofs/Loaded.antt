-- What is loaded is read again: the interleaver array of a block has each sent bit at its location.
-- Assumes nothing.
use Rattle.std.proofs.Common.{◌≡◌, ℕ, zero, suc, ◌+◌, ◌*◌, ◌/◌, ◌%◌, ◌<◌, ◌≤◌, Bool, false, ◌≢◌, List, length, set, replicate, sym, ap, ◌∙◌, ⊎_elim, mul-le-mul_right, mul_assoc, div-add-mod', zero-add, arith}
use native.Mathlib.Nat.{mul-div-le}
use Rattle.std.proofs.lemmas.Nat.{div-mul-add}
use Rattle.std.proofs.lemmas.List.{get_or-set_same, get_or-set_other, length-replicate}
use Rattle.std.proofs.lemmas.Bool.{cases_eq, cases_lt}
use Rattle.plan.specs.Scheme.{Scheme, sent_length}
use Rattle.plan.proofs.Facts.{Facts}
use Rattle.code.specs.Numbers.{read}
use Rattle.code.specs.Sending.{source, location, loads, interleaved}
use Rattle.code.proofs.Loading.{permutes, location_below, loads_long}

module _ (s : Scheme) (f : Facts s) (c : ℕ → Bool) where
  loaded_to : (array : List Bool) (count n : ℕ) → length array ≡ sent_length s → count ≤ sent_length s → n < count → read (loads s c array 0 count) (location s n) ≡ c (source s n)
  loaded_to array zero n long le h = absurd (omega arith)
  loaded_to array (suc count) n long le h =
      let before = loads s c array 0 count in
      ⊎_elim
      (λ is. ap (λ j. read (set before (location s (0 + count)) (c (source s (0 + count)))) (location s j)) (is ∙ sym (zero-add count))
      ∙ get_or-set_same before (location s (0 + count)) (c (source s (0 + count))) false (omega (arith, location_below s f (0 + count), loads_long s f c array 0 count))
      ∙ ap (λ j. c (source s j)) (zero-add count ∙ sym is))
      (λ ne. let other : n ≢ count = ne in
      get_or-set_other before (location s (0 + count)) (location s n) _ false
      (λ e. other ((permutes s f).apart n count (omega arith) (omega arith) (e ∙ ap (location s) (zero-add count))))
      ∙ loaded_to array count n long (omega arith) (omega arith))
      (cases_eq n count)

  pub loaded : (n : ℕ) → n < sent_length s → read (interleaved s c) (location s n) ≡ c (source s n)
  unfolding interleaved
  loaded n h = loaded_to (replicate (sent_length s) false) (sent_length s) n (length-replicate (sent_length s) false) (omega arith) h

module _ (s : Scheme) (f : Facts s) where
  -- the symbols take every location
  pub whole_symbols : sent_length s ≡ sent_length s / s.bits * s.bits
  whole_symbols =
      let q = s.bits in
      let n = sent_length s in
      let k = s.frame * (n / (q * s.frame)) in
      let split = div-add-mod' n (q * s.frame) in
      let low = f.bits_low in
      let none = f.frame_whole in
      let times : n ≡ k * q + 0 = omega (arith, mul_assoc q s.frame (n / (q * s.frame))) in
      let each : n / q ≡ k = ap (λ m. m / q) times ∙ div-mul-add k q 0 (omega arith) in
      times ∙ (let z : k * q + 0 ≡ k * q = omega arith in z) ∙ ap (λ m. m * q) (sym each)

  pub symbol_there : (l : ℕ) → l < sent_length s → l / s.bits < sent_length s / s.bits
  symbol_there l h =
      let q = s.bits in
      ⊎_elim (λ lt. lt)
      (λ ge. absurd (omega (arith, whole_symbols, mul-le-mul_right q ge, mul-div-le l q)))
      (cases_lt (l / q) (sent_length s / q))

  -- a location by its symbol and the place in it
  pub parts_of : (l : ℕ) → l ≡ l / s.bits * s.bits + l % s.bits
  parts_of l = omega (arith, div-add-mod' l s.bits)

  -- a symbol's locations are among the locations
  pub symbol_ends : (i : ℕ) → i < sent_length s / s.bits → i * s.bits + s.bits ≤ sent_length s
  symbol_ends i h = omega (arith, whole_symbols, mul-le-mul_right s.bits h)
