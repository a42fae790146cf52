-- What is sent for one block more.
-- Assumes nothing.
use Rattle.std.proofs.Common.{◌≡◌, ℕ, zero, suc, ◌+◌, ◌*◌, ◌/◌, ◌^◌, ◌<◌, List, [], ◌∷◌, ◌++◌, length, map, Some, None, Option, sym, refl, ap, ◌∙◌, subst, append_assoc, append-nil, arith}
use Rattle.std.specs.List.{range_with_len}
use Rattle.std.specs.Io.KnownBytes.{Appends}
use Rattle.std.proofs.lemmas.Nat.{xor_lt, div_below, mod_below, pow_pos}
use Rattle.std.proofs.lemmas.Grind.{flat_map-append}
use Rattle.std.proofs.lemmas.List.FromFn.{length-map-range_with_len}
use Rattle.air_text.specs.Lines.{air_text}
use Rattle.bits_text.specs.Texts.{Bits, block_line}
use Rattle.channel.specs.Drawing.{stepped, folded_right, state_after, drawn, drawn_bit, drawn_bits}
use Rattle.code.specs.Numbers.{bits_of}
use Rattle.plan.specs.Scheme.{Scheme}
use Rattle.scrambler.specs.Meaning.{Meaning}
use Rattle.sender.specs.Transmission.{transmission}
use Rattle.laboratory.specs.Sending.{count_on, number_after, air_from, on_air, bit_lines, drawn_blocks, Written}

pub appends_both : (a b c : Option (List ℕ)) (xs ys : List ℕ) → Appends a b xs → Appends b c ys → Appends a c (xs ++ ys)
appends_both None b c xs ys h k = tt
appends_both (Some u) None c xs ys h k = absurd h
appends_both (Some u) (Some v) None xs ys h k = absurd k
appends_both (Some u) (Some v) (Some w) xs ys h k = k ∙ ap (λ l. l ++ ys) h ∙ append_assoc u xs ys

pub appends_none : (a : Option (List ℕ)) → Appends a a []
appends_none None = tt
appends_none (Some u) = sym (append-nil u)

number_push : (n : ℕ) (bs : List (List ℕ)) (b : List ℕ) → number_after n (bs ++ b ∷ []) ≡ count_on (number_after n bs)
number_push n [] b = refl
number_push n (x ∷ bs) b = number_push (count_on n) bs b

air_push : (s : Scheme) (m : Meaning) (n : ℕ) (bs : List (List ℕ)) (b : List ℕ) →
    air_from s m n (bs ++ b ∷ []) ≡ air_from s m n bs ++ air_text (count_on (number_after n bs)) (transmission s m (bits_of b))
air_push s m n [] b = append-nil (air_text (count_on n) (transmission s m (bits_of b)))
air_push s m n (x ∷ bs) b =
    let first = air_text (count_on n) (transmission s m (bits_of x)) in
    ap (λ l. first ++ l) (air_push s m (count_on n) bs b)
    ∙ sym (append_assoc first (air_from s m (count_on n) bs) (air_text (count_on (number_after (count_on n) bs)) (transmission s m (bits_of b))))

lines_push : (bs : List (List ℕ)) (b : List ℕ) → bit_lines (bs ++ b ∷ []) ≡ bit_lines bs ++ block_line b
lines_push bs b = flat_map-append block_line bs (b ∷ []) ∙ ap (λ l. bit_lines bs ++ l) (append-nil (block_line b))

state_sum : (a b seed : ℕ) → state_after a (state_after b seed) ≡ state_after (a + b) seed
state_sum zero b seed = let e : b ≡ 0 + b = omega arith in ap (λ n. state_after n seed) e
state_sum (suc a) b seed = let e : suc (a + b) ≡ suc a + b = omega arith in ap stepped (state_sum a b seed) ∙ ap (λ n. state_after n seed) e

pub written_none : (s : Scheme) (m : Meaning) (number : ℕ) (w c : Option (List ℕ)) → number ≡ 0 → Written s m [] number w w c c
written_none s m number w c e = record { last = e; air = appends_none w; bits = appends_none c }

-- one block more
pub written_more : (s : Scheme) (m : Meaning) (bs : List (List ℕ)) (b : List ℕ) (number next : ℕ) (w v v' c d d' : Option (List ℕ)) →
    Written s m bs number w v c d → next ≡ count_on number → Appends v v' (air_text (count_on number) (transmission s m (bits_of b))) →
    Appends d d' (block_line b) → Written s m (bs ++ b ∷ []) next w v' c d'
written_more s m bs b number next w v v' c d d' h n air line = record {
  last = n ∙ ap count_on h.last ∙ sym (number_push 0 bs b);
  air = subst (Appends w v') (sym (air_push s m 0 bs b))
      (appends_both w v v' (on_air s m bs) (air_text (count_on (number_after 0 bs)) (transmission s m (bits_of b))) h.air
      (subst (λ k. Appends v v' (air_text (count_on k) (transmission s m (bits_of b)))) h.last air));
  bits = subst (Appends c d') (sym (lines_push bs b)) (appends_both c d d' (bit_lines bs) (block_line b) h.bits line);
}

pub drawn_more : (bits seed n : ℕ) → drawn_blocks bits seed n ++ (drawn_bits (state_after (n * bits) seed) bits ∷ []) ≡ drawn_blocks bits seed (n + 1)
drawn_more bits seed n = let e : suc n ≡ n + 1 = omega arith in ap (drawn_blocks bits seed) e

pub state_more : (bits seed n : ℕ) → state_after bits (state_after (n * bits) seed) ≡ state_after ((n + 1) * bits) seed
state_more bits seed n = let e : bits + n * bits ≡ (n + 1) * bits = omega arith in state_sum bits (n * bits) seed ∙ ap (λ k. state_after k seed) e

pub drawn_long : (state n : ℕ) → length (drawn_bits state n) ≡ n
drawn_long state n = length-map-range_with_len (drawn_bit state) 0 n

folded_small : (x : ℕ) → x < 2 ^ 64 → folded_right 31 x < 2 ^ 64
folded_small x h = xor_lt 64 x (x / 2 ^ 31) h (div_below x (2 ^ 31) (2 ^ 64) (pow_pos 31) (omega (arith, h)))

drawn_small : (state : ℕ) → drawn state < 2 ^ 64
drawn_small state = folded_small _ (mod_below _ (2 ^ 64) (pow_pos 64))

bit_small : (state n : ℕ) → drawn_bit state n < 2
unfolding drawn_bit
bit_small state n = div_below (drawn (state_after n state)) (2 ^ 63) 2 (pow_pos 63) (drawn_small (state_after n state))

range_small : (state a n : ℕ) → Bits (map (drawn_bit state) (range_with_len a n))
range_small state a zero = tt
range_small state a (suc n) = (bit_small state a, range_small state (a + 1) n)

-- what is drawn is bits
pub drawn_are_bits : (state n : ℕ) → Bits (drawn_bits state n)
drawn_are_bits state n = range_small state 0 n
