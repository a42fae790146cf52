-- What the words behind a row set.
-- Assumes nothing.
use Rattle.std.specs.Prelude.{◌≡◌, ℕ, List, [], ◌∷◌, ◌++◌, codes, Some, None}
use Rattle.std.specs.Borrow.{Bor}
use Rattle.orders.specs.declared.order.Drawing.{Drawing}
use Rattle.orders.specs.declared.order.ScoreKind.{ScoreKind}
use Rattle.orders.specs.declared.order.ScoreKind.TheVariants.{Total}
use Rattle.orders.specs.declared.settings.Settings.{Settings}
use Rattle.orders.specs.Words.{Writes, score_word}

-- an option, with what it sets: blocks that are drawn, the file of the copy, the file of the scrambler's values, the kind of score
pub data CommandOption : Type 0 where
  Random : Drawing → CommandOption
  Copy : Bor (List ℕ) → CommandOption
  Table : Bor (List ℕ) → CommandOption
  Score : ScoreKind → CommandOption

-- the options of an order to send, and of one to receive
abbrev pub OfSending : CommandOption → Type 0
OfSending (Random d) = Unit {0}
OfSending (Copy file) = Unit {0}
OfSending (Table file) = Unit {0}
OfSending (Score kind) = ⊥

abbrev pub OfReceiving : CommandOption → Type 0
OfReceiving (Random d) = ⊥
OfReceiving (Copy file) = ⊥
OfReceiving (Table file) = Unit {0}
OfReceiving (Score kind) = Unit {0}

-- its name
abbrev pub option_name : CommandOption → List ℕ
option_name (Random d) = codes "--random"
option_name (Copy file) = codes "--copy"
option_name (Table file) = codes "--table"
option_name (Score kind) = codes "--score"

-- the words that it takes behind its name: blocks and seed, a file's name, or the word of a kind
abbrev pub Takes : CommandOption → List (List ℕ) → Type 0
Takes (Random d) ws = (blocks : List ℕ) × (seed : List ℕ) × Writes blocks d.blocks × Writes seed d.seed × (ws ≡ blocks ∷ seed ∷ [])
Takes (Copy file) ws = ws ≡ file.now ∷ []
Takes (Table file) ws = ws ≡ file.now ∷ []
Takes (Score kind) ws = ws ≡ score_word kind ∷ []

-- how many these are
abbrev pub word_count : CommandOption → ℕ
word_count (Random d) = 2
word_count (Copy file) = 1
word_count (Table file) = 1
word_count (Score kind) = 1

-- it takes the first of these words, and the rest stands behind them
abbrev pub Stands : CommandOption → List (List ℕ) → List (List ℕ) → Type 0
Stands o ws rest = (taken : List (List ℕ)) × Takes o taken × (ws ≡ taken ++ rest)

-- nothing is set
abbrev pub nothing_set : Settings
nothing_set = record { table = None; drawing = None; copy = None; score = Total }

-- an option sets its own part anew, and leaves the others
abbrev pub set_by : Settings → CommandOption → Settings
set_by s (Random d) = record s { drawing = Some d }
set_by s (Copy file) = record s { copy = Some file }
set_by s (Table file) = record s { table = Some file }
set_by s (Score kind) = record s { score = kind }

-- the option of this name, which takes the first of these words, makes these settings those; the rest stands behind
abbrev pub OneSet : (CommandOption → Type 0) → Settings → List ℕ → List (List ℕ) → Settings → List (List ℕ) → Type 0
OneSet allowed before name ws after rest =
    (o : CommandOption) × allowed o × (name ≡ option_name o) × Stands o ws rest × (after ≡ set_by before o)

-- no words set nothing; an option behind other words sets its part, whatever they set
pub data Sets (allowed : CommandOption → Type 0) : List (List ℕ) → Settings → Type 0 where
  no_option : Sets allowed [] nothing_set
  one_more : {ws : List (List ℕ)} {s : Settings} (o : CommandOption) (taken : List (List ℕ)) → Sets allowed ws s → allowed o → Takes o taken → Sets allowed (ws ++ (option_name o ∷ taken)) (set_by s o)
