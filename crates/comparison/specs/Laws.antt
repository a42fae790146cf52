-- What a whole comparison counts.
-- Assumes nothing.
use Rattle.std.specs.Prelude.{◌≡◌, ℕ, ◌-◌, List, length, not, ◌==◌, count_by, sum_by, zip}
use Rattle.errors.specs.Errors.{differing, added}
use Rattle.comparison.specs.Comparing.{nothing, compared}
use Rattle.comparison.specs.declared.comparison.Comparison.{Comparison}

-- the pairs are the blocks side by side, the first beside the first; each count goes no further than 64 bits
pub record Tells (sent shown : List (List ℕ)) (c : Comparison) : Type 0 where
  pub blocks : c.count.blocks ≡ added 0 (length (zip sent shown))
  pub bits : c.count.bits ≡ added 0 (sum_by (λ p. length p.0) (zip sent shown))
  pub bit_errors : c.count.bit_errors ≡ added 0 (sum_by (λ p. differing p.0 p.1) (zip sent shown))
  pub block_errors : c.count.block_errors ≡ added 0 (count_by (λ p. not (differing p.0 p.1 == 0)) (zip sent shown))
  pub unequal : c.unequal ≡ added 0 (count_by (λ p. not (length p.0 == length p.1)) (zip sent shown))
  pub sent_alone : c.sent_alone ≡ added 0 (length sent - length shown)
  pub shown_alone : c.shown_alone ≡ added 0 (length shown - length sent)

-- blocks counted one after the other are counted so
abbrev pub CountsAll : Type 0
CountsAll = (sent shown : List (List ℕ)) → Tells sent shown (compared nothing sent shown)
