-- What is written to the lines of an input.
-- Assumes nothing.
use Rattle.std.specs.Prelude.{◌≡◌, ℕ, ◌+◌, ◌-◌, ◌^◌, ◌⊎◌, cond, List, [], ◌∷◌, ◌++◌, take, codes, ℤ, Some, None, Ok, Err, Option, Result, nat_le}
use Rattle.std.specs.Fmt.{decimal}
use Rattle.entries.specs.Entries.{Writes}
use Rattle.entries.specs.declared.entry.Entry.TheVariants.{Look}
use Rattle.entries.specs.Texts.{refusal_text}
use Rattle.lines.specs.Streams.{lines_of}
use Rattle.lines.specs.declared.fault.LineFault.{LineFault}
use Rattle.receiver.specs.Views.{View}
use Rattle.score.specs.Scale.{Scale}
use Rattle.search.specs.Looking.{Lengths}
use Rattle.reception.specs.Answering.{Answers}
use Rattle.reception.specs.Taking.{Shows}
use Rattle.reception.specs.Written.{shown_text}
use Rattle.reception.specs.declared.written.ScoreText.{ScoreText}

-- what is said before a look: that it begins, where the block is long
abbrev pub announcement : ℕ → List ℕ
announcement bits = cond (nat_le 10000 bits) (codes "looking for the best block of " ++ decimal bits ++ codes " bits\n") []

-- before a line that asks for a look this is said, and before any other nothing
abbrev pub Begins : ℕ → List ℕ → List ℕ → Type 0
Begins bits line aside = (Writes Look line × (aside ≡ announcement bits)) ⊎ ((Writes Look line → ⊥) × (aside ≡ []))

-- every look of these lines is announced
abbrev pub Announced : ℕ → List (List ℕ) → List ℕ → Type 0
Announced bits [] aside = aside ≡ []
Announced bits (line ∷ lines) aside = (first : List ℕ) × (rest : List ℕ) × Begins bits line first × Announced bits lines rest × (aside ≡ first ++ rest)

-- the text of an answer to the line with this number
abbrev pub answer_text : {S : Type 0} → (S → ScoreText) → ℕ → Result (Option S) LineFault → List ℕ → List ℕ
answer_text written number (Ok None) block = []
answer_text written number (Ok (Some score)) block = shown_text (written score) block
answer_text written number (Err fault) block = refusal_text fault number

module _ {S : Type 0} (k : Scale S) (written : S → ScoreText) (v : View) (whole : Lengths) where
  -- a line is answered, and this text is the answer's
  pub record Replied (number : ℕ) (line : List ℕ) (values left : List ℤ) (text : List ℕ) : Type 0 where
    pub answer : Result (Option S) LineFault
    pub block : List ℕ
    pub answers : Answers k v whole values line answer left block
    pub said : text ≡ answer_text written number answer block

  -- lines are answered one after the other, the first with this number
  abbrev pub Received : ℕ → List (List ℕ) → List ℤ → List ℤ → List ℕ → Type 0
  Received number [] values left text = (left ≡ values) × (text ≡ [])
  Received number (line ∷ lines) values left text =
      (between : List ℤ) × (first : List ℕ) × (rest : List ℕ) × Replied number line values between first × Received (number + 1) lines between left rest × (text ≡ first ++ rest)

  -- the best block is shown, with its score
  abbrev pub Last : List ℤ → List ℕ → Type 0
  Last values text = (score : S) × (block : List ℕ) × Shows k v whole values block score × (text ≡ shown_text (written score) block)

  -- every line of the input is answered, as far as 64 bits can count, and then the best block is shown; each look and the last is
  -- announced on the side; where it is not known what the input holds, they are some lines
  pub record ReceivedAll (input : Option (List ℕ)) (values : List ℤ) (text aside : List ℕ) : Type 0 where
    pub lines : List (List ℕ)
    pub left : List ℤ
    pub body : List ℕ
    pub end : List ℕ
    pub begun : List ℕ
    pub every : (bytes : List ℕ) → input ≡ Some bytes → lines ≡ take (2 ^ 64 - 1) (lines_of bytes)
    pub received : Received 1 lines values left body
    pub shown : Last left end
    pub all : text ≡ body ++ end
    pub announced : Announced v.scheme.block lines begun
    pub beside : aside ≡ begun ++ announcement v.scheme.block
