-- Words of a command line, one by one.
-- Assumes nothing.
use Rattle.std.proofs.Common.{◌≡◌, ℕ, ◌-◌, ◌<◌, ◌≤◌, List, [], ◌∷◌, length, take, drop, String, Global, slice_index_or, sym, ap, ◌∙◌, arith}
use Rattle.std.specs.Prelude.{string_bytes}
use Rattle.std.proofs.lemmas.List.{take_all}
use Rattle.speed.specs.Asking.{bytes_of}

-- the first word, and those behind it
pub first_word : (ws : List (String Global)) (w : String Global) (t : List ℕ) → 1 ≤ length ws → w ≡ slice_index_or ws 0 w → string_bytes w ≡ t → bytes_of ws ≡ t ∷ bytes_of (take (length ws - 1) (drop 1 ws))
first_word [] w t some is e = absurd (omega (arith, some))
first_word (s ∷ more) w t some is e =
    let whole : take (length (s ∷ more) - 1) more ≡ more = take_all (length (s ∷ more) - 1) more (omega arith) in
    let same : string_bytes s ≡ t = ap string_bytes (sym is) ∙ e in
    (λ i. same i ∷ bytes_of (sym whole i))

-- five words
pub five_words : (ws : List (String Global)) (a b c d e : String Global) → 5 ≤ length ws → length ws < 6 → a ≡ slice_index_or ws 0 a → b ≡ slice_index_or ws 1 b → c ≡ slice_index_or ws 2 c →
    d ≡ slice_index_or ws 3 d → e ≡ slice_index_or ws 4 e → bytes_of ws ≡ string_bytes a ∷ string_bytes b ∷ string_bytes c ∷ string_bytes d ∷ string_bytes e ∷ []
five_words [] a b c d e low high f g h j k = absurd (omega (arith, low))
five_words (p ∷ []) a b c d e low high f g h j k = absurd (omega (arith, low))
five_words (p ∷ q ∷ []) a b c d e low high f g h j k = absurd (omega (arith, low))
five_words (p ∷ q ∷ r ∷ []) a b c d e low high f g h j k = absurd (omega (arith, low))
five_words (p ∷ q ∷ r ∷ s ∷ []) a b c d e low high f g h j k = absurd (omega (arith, low))
five_words (p ∷ q ∷ r ∷ s ∷ t ∷ []) a b c d e low high f g h j k =
    (λ i. string_bytes (sym f i) ∷ string_bytes (sym g i) ∷ string_bytes (sym h i) ∷ string_bytes (sym j i) ∷ string_bytes (sym k i) ∷ [])
five_words (p ∷ q ∷ r ∷ s ∷ t ∷ u ∷ more) a b c d e low high f g h j k = absurd (omega (arith, high))
