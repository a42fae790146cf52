-- What single words of a command line say.
-- Assumes nothing.
use Rattle.std.specs.Prelude.{◌≡◌, ℕ, ◌^◌, ◌<◌, List, map, codes, string_bytes, String}
use Rattle.std.specs.Str.Parse.{IsNumeral, digits_value, without_leading_plus}
use Rattle.std.specs.declared.alloc.Global.{Global}
use Rattle.orders.specs.declared.order.ScoreKind.{ScoreKind}
use Rattle.orders.specs.declared.order.ScoreKind.TheVariants.{Total, Worst, CountFirst}

-- the bytes of each word
abbrev pub bytes_of : List (String Global) → List (List ℕ)
bytes_of ws = map string_bytes ws

-- the word is this number's: its digits, perhaps behind a plus sign, in 64 bits
pub record Writes (word : List ℕ) (n : ℕ) : Type 0 where
  pub numeral : IsNumeral 10 (without_leading_plus word)
  pub value : digits_value 10 (without_leading_plus word) ≡ n
  pub small : n < 2 ^ 64

-- the word of a kind of score
abbrev pub score_word : ScoreKind → List ℕ
score_word Total = codes "total"
score_word Worst = codes "worst"
score_word CountFirst = codes "count"
