-- What is told of words that are no order's.
-- Assumes nothing.
use Rattle.std.specs.Prelude.{◌≡◌, ◌≢◌, ℕ, ◌<◌, ◌≤◌, ◌⊎◌, List, [], ◌∷◌, ◌++◌, length, codes, Result, Ok, Err}
use Rattle.orders.specs.Words.{Writes, score_word}
use Rattle.orders.specs.Settings.{CommandOption, Random, Score, Sets, OfSending, OfReceiving, option_name, word_count}
use Rattle.orders.specs.Orders.{BeginsWith, first_word, Orders}
use Rattle.orders.specs.declared.order.Choice.{Choice}
use Rattle.orders.specs.declared.order.Drawing.{Drawing}
use Rattle.orders.specs.declared.order.Order.{Order}
use Rattle.orders.specs.declared.order.ScoreKind.{ScoreKind}
use Rattle.orders.specs.declared.settings.Settings.{Settings}
use Rattle.orders.specs.declared.slip.Slip.{Slip}
use Rattle.orders.specs.declared.slip.Slip.TheVariants.{Word, Count, Files, Number, Setting, Score as ScoreSlip}

-- the slip is that the number of this name is none
abbrev pub TellsNumber : List ℕ → Slip → Type 0
TellsNumber name (Number told) = told.now ≡ name
TellsNumber name _ = ⊥

-- of the words beside these names the first that is no number is told by its name
abbrev pub FirstNoNumber : List (List ℕ) → List (List ℕ) → Slip → Type 0
FirstNoNumber [] ws slip = ⊥
FirstNoNumber (name ∷ names) [] slip = ⊥
FirstNoNumber (name ∷ names) (word ∷ ws) slip =
    (((n : ℕ) → Writes word n → ⊥) × TellsNumber name slip) ⊎ ((n : ℕ) × Writes word n × FirstNoNumber names ws slip)

-- what the numbers are called
abbrev pub row_names : List (List ℕ)
row_names = codes "bandwidth" ∷ codes "waveform" ∷ codes "interleaver" ∷ codes "constraint length" ∷ []

abbrev pub drawing_names : List (List ℕ)
drawing_names = codes "count of blocks" ∷ codes "seed" ∷ []

-- these words do not begin with a row: there are fewer than four, or one of the four is no number
abbrev pub NoRow : List (List ℕ) → Slip → Type 0
NoRow ws slip = ((length ws < 4) × (slip ≡ Count)) ⊎ ((4 ≤ length ws) × FirstNoNumber row_names ws slip)

-- these words do not begin with an option of the order
pub data NoOption (allowed : CommandOption → Type 0) : List (List ℕ) → Slip → Type 0 where
  lacks : {name : List ℕ} {ws : List (List ℕ)} → ((o : CommandOption) → allowed o → name ≡ option_name o → length ws < word_count o) → NoOption allowed (name ∷ ws) Setting
  numbers : {blocks seed : List ℕ} {ws : List (List ℕ)} {slip : Slip} → ((d : Drawing) → allowed (Random d)) → FirstNoNumber drawing_names (blocks ∷ seed ∷ []) slip → NoOption allowed (codes "--random" ∷ blocks ∷ seed ∷ ws) slip
  kind : {word : List ℕ} {ws : List (List ℕ)} → ((k : ScoreKind) → allowed (Score k)) → ((k : ScoreKind) → score_word k ≡ word → ⊥) → NoOption allowed (codes "--score" ∷ word ∷ ws) ScoreSlip

-- options, and then words that begin with none
abbrev pub NoOptions : (CommandOption → Type 0) → List (List ℕ) → Slip → Type 0
NoOptions allowed ws slip =
    (good : List (List ℕ)) × (bad : List (List ℕ)) × (s : Settings) × Sets allowed good s × NoOption allowed bad slip × (ws ≡ good ++ bad)

-- what is told
pub data Tells : List (List ℕ) → Slip → Type 0 where
  no_word : Tells [] Word
  other_word : {word : List ℕ} {ws : List (List ℕ)} → ((o : Order) → word ≡ first_word o → ⊥) → Tells (word ∷ ws) Word
  rows_words : {ws : List (List ℕ)} → ws ≢ [] → Tells (codes "rows" ∷ ws) Count
  plan_row : {ws : List (List ℕ)} {slip : Slip} → NoRow ws slip → Tells (codes "plan" ∷ ws) slip
  plan_words : {ws more : List (List ℕ)} (c : Choice) → BeginsWith c ws more → more ≢ [] → Tells (codes "plan" ∷ ws) Count
  send_row : {ws : List (List ℕ)} {slip : Slip} → NoRow ws slip → Tells (codes "send" ∷ ws) slip
  send_options : {ws options : List (List ℕ)} {slip : Slip} (c : Choice) → BeginsWith c ws options → NoOptions OfSending options slip → Tells (codes "send" ∷ ws) slip
  receive_row : {ws : List (List ℕ)} {slip : Slip} → NoRow ws slip → Tells (codes "receive" ∷ ws) slip
  receive_options : {ws options : List (List ℕ)} {slip : Slip} (c : Choice) → BeginsWith c ws options → NoOptions OfReceiving options slip → Tells (codes "receive" ∷ ws) slip
  count_files : {ws : List (List ℕ)} → length ws ≢ 2 → Tells (codes "count" ∷ ws) Files

-- words are read as their order, or what is wrong with them is told
abbrev pub Reading : List (List ℕ) → Result Order Slip → Type 0
Reading ws (Ok o) = Orders ws o
Reading ws (Err slip) = Tells ws slip
