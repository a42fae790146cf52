-- What is answered to the lines of an input.
-- Assumes nothing.
use Rattle.std.specs.Prelude.{◌≡◌, ℕ, ◌+◌, ◌⊎◌, List, [], ◌∷◌, ◌++◌, take, Some, None, Option}
use Rattle.lines.specs.Answers.{answer_text}
use Rattle.lines.specs.Streams.{lines_of}
use Rattle.lines.specs.declared.answer.Answer.{Answer}
use Rattle.lines.specs.declared.answer.Answer.TheVariants.{Refused}
use Rattle.session.specs.Held.{Held}
use Rattle.session.specs.Said.{Answers}

-- a line is answered as the session does, or, where there is no room for it, by 255, and then what is held stays
abbrev pub Replied : ℕ → List ℕ → Held → Held → Answer → Type 0
Replied number line h now reply = Answers h line number reply now ⊎ ((reply ≡ Refused 255 number) × (now ≡ h))

-- lines are answered one after the other, the first with this number
abbrev pub Answered : ℕ → List (List ℕ) → Held → Held → List ℕ → Type 0
Answered number [] h now text = (now ≡ h) × (text ≡ [])
Answered number (line ∷ lines) h now text =
    (between : Held) × (reply : Answer) × (rest : List ℕ) × Replied number line h between reply × Answered (number + 1) lines between now rest × (text ≡ answer_text reply ++ rest)

-- at first nothing is held, and then as many lines of the input are answered as 16 bits can count; where it is not known what the
-- input holds, they are some lines
pub record AnsweredAll (input : Option (List ℕ)) (text : List ℕ) : Type 0 where
  pub lines : List (List ℕ)
  pub first : Held
  pub last : Held
  pub no_plan : first.plan ≡ None
  pub no_receiver : first.receiver ≡ None
  pub every : (bytes : List ℕ) → input ≡ Some bytes → lines ≡ take 65535 (lines_of bytes)
  pub answered : Answered 1 lines first last text
