-- What a receiver is, apart from its values: its coding scheme, and what its scrambler means.
-- Assumes nothing.
use Rattle.plan.specs.Scheme.{Scheme}
use Rattle.scrambler.specs.Meaning.{Meaning}

pub record View : Type 0 where
  pub scheme : Scheme
  pub meaning : Meaning
