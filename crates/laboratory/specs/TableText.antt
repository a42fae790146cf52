-- A table of values as text.
-- Assumes nothing.
use Rattle.std.specs.Prelude.{◌≡◌, ℕ, ◌+◌, ◌-◌, ◌^◌, min, Bool, true, false, cond, ◌&&◌, ◌⊎◌, List, ◌∷◌, ◌++◌, map, Some, None, Ok, Err, Option, Result, MatchResult, length, nat_lt, ◌==◌}
use Rattle.std.specs.Char.{is_ascii_whitespace}
use Rattle.std.specs.List.{before_first, filter, flat_map, slice_split}
use Rattle.std.specs.Str.{all_ascii_digits}
use Rattle.std.specs.Str.Lines.{lines}
use Rattle.std.specs.Str.Parse.{digits_value, without_leading_plus}
use Rattle.plan.specs.Faults.{chain_number}
use Rattle.plan.specs.Scheme.{Scheme}
use Rattle.plan.specs.declared.fault.ChainFault.TheVariants.{OutOfMemory}
use Rattle.scrambler.specs.Meanings.{table_meaning}
use Rattle.scrambler.specs.Questions.{table_fits}
use Rattle.scrambler.specs.declared.table.Table.{Table}
use Rattle.sender.specs.Scrambling.{needed_width}
use Rattle.laboratory.specs.declared.trouble.Trouble.{Trouble}
use Rattle.laboratory.specs.declared.trouble.Trouble.TheVariants.{Chain, Value, Outside}

-- the value of a word: digits that write a number up to 255, a plus before them or not
abbrev pub digits_byte : List ℕ → Option ℕ
digits_byte digits = cond (nat_lt 0 (length digits) && (all_ascii_digits digits && nat_lt (digits_value 10 digits) 256)) (Some (digits_value 10 digits)) None

abbrev pub word_value : List ℕ → Option ℕ
word_value word = digits_byte (without_leading_plus word)

-- what stands between white space
abbrev pub words : List ℕ → List (List ℕ)
words text = filter (λ w. nat_lt 0 (length w)) (slice_split is_ascii_whitespace text)

-- the words of a line before any #
abbrev pub line_words : List ℕ → List (List ℕ)
line_words line = words (before_first (λ c. c == 35) line)

-- the words are these values
abbrev pub AreValues : List (List ℕ) → List ℕ → Type 0
AreValues words values = map word_value words ≡ map Some values

-- what is told where some words of a line are not taken: the line of a word that is no value, or want of memory
abbrev pub WordsRefused : List (List ℕ) → ℕ → Trouble → Type 0
WordsRefused words number (Value line) = (line ≡ number) × ((values : List ℕ) → AreValues words values → ⊥)
WordsRefused words number (Chain fault) = fault ≡ OutOfMemory
WordsRefused words number other = ⊥

-- some words are taken: a list grows by their values
abbrev pub WordsTaken : {T : Type 0} → List (List ℕ) → ℕ → List ℕ → List ℕ → Result T Trouble → Type 0
WordsTaken words number old new r = MatchResult r (λ _. (values : List ℕ) × AreValues words values × (new ≡ old ++ values)) (WordsRefused words number)

-- the words of some lines
abbrev pub all_words : List (List ℕ) → List (List ℕ)
all_words lines = flat_map line_words lines

-- the first line of a text that has something else than values, by its number
pub record StrayLine (text : List ℕ) (number : ℕ) : Type 0 where
  pub before : List (List ℕ)
  pub line : List ℕ
  pub after : List (List ℕ)
  pub cut : lines text ≡ before ++ line ∷ after
  pub values : List ℕ
  pub fine : AreValues (all_words before) values
  pub stray : (others : List ℕ) → AreValues (line_words line) others → ⊥
  pub numbered : number ≡ min (length before + 1) (2 ^ 64 - 1)

-- the text says these values, and they make such a table, or none
abbrev pub TextSays : Scheme → List ℕ → Bool → List ℕ → Type 0
TextSays s text fits values = AreValues (all_words (lines text)) values × (table_fits (needed_width s.bits) values ≡ fits)

-- what a text is answered: a table of its values, the line that has something else, 10 for values that make no table,
-- or want of memory; of a reader that fails, and of a text that is no UTF-8, nothing more is said
abbrev pub TableRead : Scheme → List ℕ → Result Table Trouble → Type 0
TableRead s text (Ok t) = (values : List ℕ) × TextSays s text true values × (table_meaning t ≡ record { width = needed_width s.bits; values = values })
TableRead s text (Err (Value line)) = StrayLine text line
TableRead s text (Err (Chain fault)) = (fault ≡ OutOfMemory) ⊎ ((values : List ℕ) × TextSays s text false values × (chain_number fault ≡ 10))
TableRead s text (Err (Outside e)) = Unit {0}
TableRead s text (Err other) = ⊥
