-- What the words of a command line ask for.
-- Assumes nothing.
use Rattle.std.specs.Prelude.{◌≡◌, ◌≢◌, ℕ, ◌^◌, ◌<◌, ℤ, FitsSigned, ◌≤ℤ◌, Bool, not, List, [], ◌∷◌, ◌++◌, ◌⊎◌, map, fold, length, take, drop, true, codes, string_bytes, String, nat_eq}
use Rattle.std.specs.Int.{w8}
use Rattle.std.specs.List.{starts_with, position_or_len}
use Rattle.std.specs.Str.Parse.{IsNumeral, digits_value, signed_digits_value, without_leading_plus, without_leading_sign}
use Rattle.std.specs.declared.alloc.Global.{Global}
use Rattle.curve.specs.Sentences.{no_number}
use Rattle.curve.specs.Usual.{usual_choice, usual_run}
use Rattle.curve.specs.declared.choice.Choice.{Choice}
use Rattle.curve.specs.declared.choice.Run.{Run}
use Rattle.curve.specs.declared.request.Request.{Request}
use Rattle.curve.specs.declared.request.Request.TheVariants.{Rows, Time, Send, Curve}
use Rattle.curve.specs.declared.request.Setting.{Setting}
use Rattle.curve.specs.declared.request.Setting.TheVariants.{From, To, Blocks, Seed, Svg}

abbrev pub bytes_of : List (String Global) → List (List ℕ)
bytes_of ws = map string_bytes ws

-- the word is this number's: its digits, perhaps behind a plus sign, in 64 bits
pub record Writes (word : List ℕ) (n : ℕ) : Type 0 where
  pub numeral : IsNumeral 10 (without_leading_plus word)
  pub value : digits_value 10 (without_leading_plus word) ≡ n
  pub small : n < 2 ^ 64

-- the word is this number's: its digits, perhaps behind a sign, in 8 bits
pub record WritesDecibels (word : List ℕ) (z : ℤ) : Type 0 where
  pub numeral : IsNumeral 10 (without_leading_sign word)
  pub value : signed_digits_value 10 word ≡ z
  pub small : FitsSigned w8 z

-- the word is no number's, or of a greater one
abbrev pub IsNoNumber : List ℕ → Type 0
IsNoNumber word = (n : ℕ) → Writes word n → ⊥

abbrev pub IsNoRatio : List ℕ → Type 0
IsNoRatio word = (z : ℤ) → WritesDecibels word z → ⊥

-- four words name a row and a constraint length
pub record Names (bandwidth waveform interleaver constraint : List ℕ) (c : Choice) : Type 0 where
  pub bandwidth_word : Writes bandwidth c.row.bandwidth
  pub waveform_word : Writes waveform c.row.waveform
  pub interleaver_word : Writes interleaver c.row.interleaver
  pub constraint_word : Writes constraint c.constraint

-- no words name the usual row
abbrev pub NamesRow : List (List ℕ) → Choice → Type 0
NamesRow [] c = c ≡ usual_choice
NamesRow (b ∷ w ∷ i ∷ k ∷ []) c = Names b w i k c
NamesRow ws c = ⊥

-- of words that go by names, the first that is no number's is told
abbrev pub TellsFirst : List (List ℕ × List ℕ) → List ℕ → Type 0
TellsFirst [] sentence = ⊥
TellsFirst (w ∷ ws) sentence = (IsNoNumber w.1 × (sentence ≡ no_number w.0)) ⊎ (((n : ℕ) × Writes w.1 n) × TellsFirst ws sentence)

-- why four words name no row
abbrev pub RefusesFour : List ℕ → List ℕ → List ℕ → List ℕ → List ℕ → Type 0
RefusesFour b w i k sentence =
    TellsFirst ((codes "bandwidth", b) ∷ (codes "waveform", w) ∷ (codes "interleaver", i) ∷ (codes "constraint length", k) ∷ []) sentence

-- why words name no row
abbrev pub RefusesRow : List (List ℕ) → List ℕ → Type 0
RefusesRow [] sentence = ⊥
RefusesRow (b ∷ w ∷ i ∷ k ∷ []) sentence = RefusesFour b w i k sentence
RefusesRow ws sentence = sentence ≡ codes "a row takes four numbers"

-- ---- options

-- what an option sets
abbrev pub set : Setting → Run → Run
set (From z) run = record run { from = z }
set (To z) run = record run { to = z }
set (Blocks n) run = record run { blocks = n }
set (Seed n) run = record run { seed = n }
set Svg run = record run { svg = true }

-- a name, an equals sign, a value
abbrev pub valued : List ℕ → List ℕ → List ℕ
valued name value = name ++ (61 ∷ value)

-- an option's name and value
abbrev pub HasValue : List ℕ → List ℕ → Setting → Type 0
HasValue name value (From z) = (name ≡ codes "--from") × WritesDecibels value z
HasValue name value (To z) = (name ≡ codes "--to") × WritesDecibels value z
HasValue name value (Blocks n) = (name ≡ codes "--blocks") × Writes value n
HasValue name value (Seed n) = (name ≡ codes "--seed") × Writes value n
HasValue name value Svg = ⊥

-- the word of an option
abbrev pub IsOption : List ℕ → Setting → Type 0
IsOption word Svg = word ≡ codes "--svg"
IsOption word s = (name : List ℕ) × (value : List ℕ) × (word ≡ valued name value) × HasValue name value s

-- why a value does not suit the option of this name
abbrev pub LacksNumber : List ℕ → List ℕ → List ℕ → Type 0
LacksNumber name value sentence =
    ((name ≡ codes "--from") × IsNoRatio value × (sentence ≡ no_number (codes "first ratio")))
    ⊎ ((name ≡ codes "--to") × IsNoRatio value × (sentence ≡ no_number (codes "last ratio")))
    ⊎ ((name ≡ codes "--blocks") × IsNoNumber value × (sentence ≡ no_number (codes "count of blocks")))
    ⊎ ((name ≡ codes "--seed") × IsNoNumber value × (sentence ≡ no_number (codes "seed")))

-- the name is none of an option with a value
abbrev pub IsNoName : List ℕ → Type 0
IsNoName name = (name ≢ codes "--from") × (name ≢ codes "--to") × (name ≢ codes "--blocks") × (name ≢ codes "--seed")

-- the word is no option's, whatever it has for a value
abbrev pub IsUnknown : List ℕ → Type 0
IsUnknown word = (word ≢ codes "--svg") × ((name value : List ℕ) → word ≡ valued name value → IsNoName name)

-- why a word is no option
abbrev pub RefusesOption : List ℕ → List ℕ → Type 0
RefusesOption word sentence =
    ((name : List ℕ) × (value : List ℕ) × (word ≡ valued name value) × LacksNumber name value sentence)
    ⊎ (IsUnknown word × (sentence ≡ codes "there is no such word or option"))

-- each option sets what it sets, the first one first
abbrev pub SetsAll : List (List ℕ) → Run → Run → Type 0
SetsAll [] old new = new ≡ old
SetsAll (w ∷ ws) old new = (s : Setting) × IsOption w s × SetsAll ws (set s old) new

-- the first word that is no option is told
abbrev pub RefusesAll : List (List ℕ) → List ℕ → Type 0
RefusesAll [] sentence = ⊥
RefusesAll (w ∷ ws) sentence = RefusesOption w sentence ⊎ (((s : Setting) × IsOption w s) × RefusesAll ws sentence)

-- ---- requests

-- the word begins with two dashes
abbrev pub is_dashed : List ℕ → Bool
is_dashed word = starts_with nat_eq word (codes "--")

-- the words before the first with dashes, and those from there on
abbrev pub row_words : List (List ℕ) → List (List ℕ)
row_words ws = take (position_or_len is_dashed ws) ws

abbrev pub option_words : List (List ℕ) → List (List ℕ)
option_words ws = drop (position_or_len is_dashed ws) ws

-- there is a ratio and a block to run
abbrev pub CanRun : Run → Type 0
CanRun run = (run.from ≤ℤ run.to) × (0 < run.blocks)

-- the row's run, as far as nothing is set
abbrev pub usual_of : Choice → Run
usual_of c = record usual_run { choice = c }

-- a row, or none for the usual one, and then options ask for a run
abbrev pub AsksRun : List (List ℕ) → Run → Type 0
AsksRun ws run = (c : Choice) × NamesRow (row_words ws) c × SetsAll (option_words ws) (usual_of c) run × CanRun run

-- why they do not: the row is asked first, then the options, then whether there is anything to run
abbrev pub RefusesRun : List (List ℕ) → List ℕ → Type 0
RefusesRun ws sentence =
    RefusesRow (row_words ws) sentence
    ⊎ ((c : Choice) × NamesRow (row_words ws) c × RefusesAll (option_words ws) sentence)
    ⊎ ((c : Choice) × (run : Run) × NamesRow (row_words ws) c × SetsAll (option_words ws) (usual_of c) run
    × (CanRun run → ⊥) × (sentence ≡ codes "there is no ratio or no block to run"))

-- the first word is none of the three that are words of their own
abbrev pub BeginsWithRow : List (List ℕ) → Type 0
BeginsWithRow [] = Unit {0}
BeginsWithRow (w ∷ ws) = (w ≢ codes "rows") × (w ≢ codes "time") × (w ≢ codes "send")

-- the words ask for this. What follows `rows` or `time` is not read
abbrev pub Asks : List (List ℕ) → Request → Type 0
Asks ws Rows = (rest : List (List ℕ)) × (ws ≡ codes "rows" ∷ rest)
Asks ws Time = (rest : List (List ℕ)) × (ws ≡ codes "time" ∷ rest)
Asks ws (Send c) = (rest : List (List ℕ)) × (ws ≡ codes "send" ∷ rest) × NamesRow rest c
Asks ws (Curve run) = BeginsWithRow ws × AsksRun ws run

-- they ask for nothing, and this is said
abbrev pub Refuses : List (List ℕ) → List ℕ → Type 0
Refuses ws sentence =
    ((rest : List (List ℕ)) × (ws ≡ codes "send" ∷ rest) × RefusesRow rest sentence)
    ⊎ (BeginsWithRow ws × RefusesRun ws sentence)
