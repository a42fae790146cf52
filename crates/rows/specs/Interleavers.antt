-- The interleavers by number and by name.
-- Assumes nothing.
use Rattle.std.specs.Prelude.{◌≡◌, ℕ, ◌<◌, List, codes, Result, MatchResult}
use Rattle.rows.specs.declared.interleaver.Interleaver.{Interleaver}
use Rattle.rows.specs.declared.interleaver.Interleaver.TheVariants.{UltraShort, Short, Medium, Long}
use Rattle.rows.specs.declared.interleaver.UnknownInterleaver.{UnknownInterleaver}

abbrev pub number : Interleaver → ℕ
number UltraShort = 0
number Short = 1
number Medium = 2
number Long = 3

-- the interleaver with this number, or the number that none has
abbrev pub Numbered : ℕ → Result Interleaver UnknownInterleaver → Type 0
Numbered n r = MatchResult r (λ interleaver. number interleaver ≡ n) (λ e. (e.0 ≡ n) × (3 < n))

-- how an interleaver is written
abbrev pub name : Interleaver → List ℕ
name UltraShort = codes "ultra short"
name Short = codes "short"
name Medium = codes "medium"
name Long = codes "long"
