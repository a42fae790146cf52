-- The three kinds of score.
-- Assumes nothing.
use Rattle.std.specs.Prelude.{ℕ, ◌+◌, ◌-◌, ◌^◌, min, max, Bool, true, false, cond, ◌&&◌, ◌||◌, ◌==◌, nat_le, nat_lt}
use Rattle.score.specs.Values.{contradicted, weight}
use Rattle.score.specs.Scale.{Scale}
use Rattle.score.specs.declared.tally.Tally.{Tally}
use Rattle.score.specs.declared.tally.Tally.TheVariants.{Counted, Full}

-- a sum that stops at the greatest number of 64 bits
abbrev pub added : ℕ → ℕ → ℕ
added s w = s + min w (2 ^ 64 - 1 - s)

-- Total adds the weights
abbrev pub total_scale : Scale ℕ
total_scale = record {
  start = 0;
  extended = λ s value bit. added s (weight value bit);
  no_worse = nat_le;
}

-- Worst keeps the greatest weight
abbrev pub worst_scale : Scale ℕ
worst_scale = record {
  start = 0;
  extended = λ s value bit. max s (weight value bit);
  no_worse = nat_le;
}

-- one contradicted place more: a count that reaches the greatest number of 32 bits is full
abbrev pub counted : Tally → ℕ → Tally
counted (Counted count total) w = cond (nat_le 4294967295 (count + 1)) Full (Counted (count + 1) (added total w))
counted Full w = Full

-- the smaller count, and of equal counts the smaller total; a full count is worse than every other
abbrev pub tally_no_worse : Tally → Tally → Bool
tally_no_worse (Counted c t) (Counted d u) = nat_lt c d || (c == d && nat_le t u)
tally_no_worse (Counted c t) Full = true
tally_no_worse Full (Counted d u) = false
tally_no_worse Full Full = true

-- Count-first counts the contradicted places, and then adds their weights
abbrev pub count_scale : Scale Tally
count_scale = record {
  start = Counted 0 0;
  extended = λ s value bit. cond (contradicted value bit) (counted s (weight value bit)) s;
  no_worse = tally_no_worse;
}
