-- Bits as text: digits, white space and comments.
-- Assumes nothing.
use Rattle.std.specs.Prelude.{◌≡◌, ℕ, ◌+◌, Bool, false, cond, ◌||◌, ◌&&◌, ◌<◌, List, [], ◌∷◌, ◌++◌, map, ◌==◌, nat_le}
use Rattle.std.specs.List.{AllByRecursion}

-- a blank, or one of the codes 9 to 13: tab, line feed and the like
abbrev pub is_space : ℕ → Bool
is_space c = c == 32 || (nat_le 9 c && nat_le c 13)

-- whether a comment goes on after a byte: # begins one, a line feed ends it
abbrev pub comment_after : Bool → ℕ → Bool
comment_after inside c = cond (c == 10) false (inside || c == 35)

-- whether a text that begins inside a comment, or outside, ends inside one
abbrev pub ends_inside : Bool → List ℕ → Bool
ends_inside inside [] = inside
ends_inside inside (c ∷ cs) = ends_inside (comment_after inside c) cs

-- a byte that is neither white space nor of a comment
abbrev pub mark : Bool → ℕ → List ℕ
mark inside c = cond (inside || (c == 35 || is_space c)) [] (c ∷ [])

-- those bytes of a text
abbrev pub marks : Bool → List ℕ → List ℕ
marks inside [] = []
marks inside (c ∷ cs) = mark inside c ++ marks (comment_after inside c) cs

abbrev pub Bits : List ℕ → Type 0
Bits bits = AllByRecursion (λ b. b < 2) bits

-- 0 and 1 as they are written
abbrev pub digits : List ℕ → List ℕ
digits bits = map (λ b. 48 + b) bits

-- the text says these bits: their digits are all that stands in it
pub record Says (text bits : List ℕ) : Type 0 where
  pub binary : Bits bits
  pub written : digits bits ≡ marks false text

-- how a byte of a block is written: what is no bit as 1
abbrev pub digit : ℕ → ℕ
digit b = cond (b == 0) 48 49

-- the line of a block
abbrev pub block_line : List ℕ → List ℕ
block_line block = map digit block ++ (10 ∷ [])
