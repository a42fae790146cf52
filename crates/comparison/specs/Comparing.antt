-- Sent blocks beside shown ones.
-- Assumes nothing.
use Rattle.std.specs.Prelude.{ℕ, cond, List, [], ◌∷◌, length, ◌==◌}
use Rattle.errors.specs.Errors.{added, with_block}
use Rattle.comparison.specs.declared.comparison.Comparison.{Comparison}

abbrev pub nothing : Comparison
nothing = record {
  count = record { blocks = 0; bits = 0; bit_errors = 0; block_errors = 0 };
  unequal = 0;
  sent_alone = 0;
  shown_alone = 0;
}

-- a shown block beside a sent one: its errors, and whether it has another length
abbrev pub with_pair : Comparison → List ℕ → List ℕ → Comparison
with_pair c sent shown = record c {
  count = with_block c.count sent shown;
  unequal = added c.unequal (cond (length sent == length shown) 0 1);
}

-- a sent block with none beside it
abbrev pub with_sent : Comparison → Comparison
with_sent c = record c { sent_alone = added c.sent_alone 1 }

-- a shown block with none beside it
abbrev pub with_shown : Comparison → Comparison
with_shown c = record c { shown_alone = added c.shown_alone 1 }

-- shown blocks with no sent ones beside them
abbrev pub all_shown : Comparison → List (List ℕ) → Comparison
all_shown c [] = c
all_shown c (y ∷ ys) = all_shown (with_shown c) ys

-- sent blocks beside shown ones, the first beside the first
abbrev pub compared : Comparison → List (List ℕ) → List (List ℕ) → Comparison
compared c [] ys = all_shown c ys
compared c (x ∷ xs) [] = compared (with_sent c) xs []
compared c (x ∷ xs) (y ∷ ys) = compared (with_pair c x y) xs ys
