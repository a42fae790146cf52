-- What the lines of a block tell.
-- Assumes nothing.
use Rattle.std.specs.Prelude.{◌≡◌, ℕ, ◌^◌, ◌<◌, List}
use Rattle.std.specs.List.{AllByRecursion}
use Rattle.air_text.specs.Lines.{air_text}

abbrev pub Bytes : List ℕ → Type 0
Bytes indices = AllByRecursion (λ i. i < 256) indices

-- two blocks with the same lines have the same number and the same indices
abbrev pub OneBlock : Type 0
OneBlock =
    (m n : ℕ) (xs ys : List ℕ) → m < 2 ^ 64 → n < 2 ^ 64 → Bytes xs → Bytes ys → air_text m xs ≡ air_text n ys → (m ≡ n) × (xs ≡ ys)
