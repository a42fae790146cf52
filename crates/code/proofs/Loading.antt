-- Loading the interleaver array, one sent bit after the other.
-- Assumes nothing.
use Rattle.std.proofs.Common.{◌≡◌, ℕ, zero, suc, ◌+◌, ◌*◌, ◌/◌, ◌<◌, ◌≤◌, Bool, List, ◌++◌, length, get_or, set, sym, refl, ap, ◌∙◌, add-zero, add_assoc, add-suc, mod-lt, div-add-mod', mul_assoc, mul_comm, add-one, arith}
use native.Mathlib.Nat.{mul-div-le}
use Rattle.std.proofs.lemmas.Nat.{div-mul-add, mod-mul-add, mul-add-lt, mul-le, div_below}
use Rattle.std.proofs.lemmas.List.{length-set, set-append_left}
use Rattle.plan.specs.Scheme.{Scheme, sent_length}
use Rattle.plan.proofs.Facts.{Facts}
use Rattle.code.specs.Laws.{Permutes}
use Rattle.code.specs.Sending.{source, location, loads}
use Rattle.code.proofs.Blocks.{below_get_or}
use Rattle.code.proofs.Permutation as permutation

module _ (s : Scheme) (known : Facts s) where
  pub sent_low : 0 < sent_length s
  sent_low = omega (arith, known.increment_low, known.increment_high)

  pub permutes : Permutes s
  unfolding location
  permutes = record {
    reached = permutation.reached s.increment (sent_length s) sent_low known.increment_coprime;
    apart = permutation.apart s.increment (sent_length s) sent_low known.increment_coprime;
  }

  pub location_below : (n : ℕ) → location s n < sent_length s
  unfolding location
  location_below n = mod-lt (n * s.increment) sent_low

  -- sent bit n's product stays far below 2 to the power 64
  pub product_fits : (n : ℕ) → n < sent_length s → n * s.increment ≤ 4892236185600
  product_fits n h = mul-le n s.increment 2211840 2211840 (omega (arith, known.sent_high)) (omega (arith, known.increment_high, known.sent_high))

  -- the run of a step is below the number of runs
  pub run_below : (t : ℕ) → t < s.block → t / s.period < s.block / s.period
  run_below t h =
      let whole = div-add-mod' s.block s.period in
      let none = known.block_whole in
      div_below t s.period (s.block / s.period) known.period_low (omega arith)

  -- entry i of run j is a sent bit
  pub sent_below : (j i : ℕ) → j < s.block / s.period → i < length s.entries → j * length s.entries + i < sent_length s
  sent_below j i hj hi = omega (arith, mul-add-lt j (length s.entries) i (s.block / s.period) hj hi, mul_comm (length s.entries) (s.block / s.period))

  -- and its place in the code word
  pub source_of : (j i : ℕ) → i < length s.entries → source s (j * length s.entries + i) ≡ 2 * s.period * j + get_or s.entries i 0
  source_of j i h =
      (λ x. 2 * s.period * div-mul-add j (length s.entries) i h x + get_or s.entries (mod-mul-add j (length s.entries) i h x) 0)

  pub entry_below : (i : ℕ) → i < length s.entries → get_or s.entries i 0 < 2 * s.period
  entry_below i h = below_get_or (2 * s.period) s.entries i known.entries_below h

  -- a place of run j lies in the code word
  pub place_below : (j e : ℕ) → j < s.block / s.period → e < 2 * s.period → 2 * s.period * j + e < 2 * s.block
  place_below j e hj he =
      let row = mul-add-lt j (2 * s.period) e (s.block / s.period) hj he in
      omega (arith, row, mul_comm j (2 * s.period), mul_assoc 2 s.period (s.block / s.period), mul-div-le s.block s.period)

  -- location i of a symbol is one of the locations
  pub fetch_below : (place i : ℕ) → place < sent_length s / s.bits → i < s.bits → place * s.bits + i < sent_length s
  fetch_below place i hp hi =
      omega (arith, mul-add-lt place s.bits i (sent_length s / s.bits) hp hi, mul-div-le (sent_length s) s.bits)

  module _ (c : ℕ → Bool) where
    pub loads_long : (array : List Bool) (n count : ℕ) → length (loads s c array n count) ≡ length array
    loads_long array n zero = refl
    loads_long array n (suc count) = length-set (loads s c array n count) (location s (n + count)) (c (source s (n + count))) ∙ loads_long array n count

    -- one sent bit more
    pub loads_more : (array now : List Bool) (n count l : ℕ) (b : Bool) → now ≡ loads s c array n count → l ≡ location s (n + count) → b ≡ c (source s (n + count)) → set now l b ≡ loads s c array n (count + 1)
    loads_more array now n count l b p q r = (λ i. set (p i) (q i) (r i)) ∙ ap (loads s c array n) (sym (add-one count))

    -- one stretch of sent bits after another
    pub loads_on : (array : List Bool) (n a b : ℕ) → loads s c (loads s c array n a) (n + a) b ≡ loads s c array n (a + b)
    loads_on array n a zero = ap (loads s c array n) (sym (add-zero a))
    loads_on array n a (suc b) =
        (λ i. set (loads_on array n a b i) (location s (add_assoc n a b i)) (c (source s (add_assoc n a b i))))
        ∙ ap (loads s c array n) (sym (add-suc a b))

    -- what lies past the locations stays
    pub loads_front : (array rest : List Bool) (n count : ℕ) → length array ≡ sent_length s → loads s c (array ++ rest) n count ≡ loads s c array n count ++ rest
    loads_front array rest n zero e = refl
    loads_front array rest n (suc count) e =
        ap (λ l. set l (location s (n + count)) (c (source s (n + count)))) (loads_front array rest n count e)
        ∙ set-append_left (loads s c array n count) rest (location s (n + count)) (c (source s (n + count))) (omega (arith, location_below (n + count), loads_long array n count))
