-- The pattern that the code holds by its mask.
-- Assumes nothing.
use Rattle.rows.specs.declared.pattern.Pattern.{Pattern}
use Rattle.rows.specs.Patterns.{Puncture}

abbrev pub puncture_of : Pattern → Puncture
puncture_of p = record { first = p.first.now; second = p.second.now; repeats = p.repeats }
