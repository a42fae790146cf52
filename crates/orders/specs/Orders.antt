-- Which words are an order's.
-- Assumes nothing.
use Rattle.std.specs.Prelude.{◌≡◌, ℕ, List, [], ◌∷◌, codes}
use Rattle.orders.specs.Words.{Writes}
use Rattle.orders.specs.Settings.{Sets, OfSending, OfReceiving}
use Rattle.orders.specs.declared.order.Choice.{Choice}
use Rattle.orders.specs.declared.order.Order.{Order}
use Rattle.orders.specs.declared.order.Order.TheVariants.{Rows, Plan, Send, Receive, Count}

-- four words name a row and a constraint length
pub record Names (bandwidth waveform interleaver constraint : List ℕ) (c : Choice) : Type 0 where
  pub bandwidth_word : Writes bandwidth c.row.bandwidth
  pub waveform_word : Writes waveform c.row.waveform
  pub interleaver_word : Writes interleaver c.row.interleaver
  pub constraint_word : Writes constraint c.constraint

-- these words begin with those four, and the rest stands behind them
abbrev pub BeginsWith : Choice → List (List ℕ) → List (List ℕ) → Type 0
BeginsWith c ws rest = (a : List ℕ) × (b : List ℕ) × (i : List ℕ) × (k : List ℕ) × Names a b i k c × (ws ≡ a ∷ b ∷ i ∷ k ∷ rest)

-- the first word of an order
abbrev pub first_word : Order → List ℕ
first_word Rows = codes "rows"
first_word (Plan c) = codes "plan"
first_word (Send c s) = codes "send"
first_word (Receive c s) = codes "receive"
first_word (Count sent shown) = codes "count"

-- the words behind it; those behind a row are options
abbrev pub Follows : Order → List (List ℕ) → Type 0
Follows Rows ws = ws ≡ []
Follows (Plan c) ws = BeginsWith c ws []
Follows (Send c s) ws = (options : List (List ℕ)) × BeginsWith c ws options × Sets OfSending options s
Follows (Receive c s) ws = (options : List (List ℕ)) × BeginsWith c ws options × Sets OfReceiving options s
Follows (Count sent shown) ws = ws ≡ sent.now ∷ shown.now ∷ []

-- the order is that of these words
abbrev pub Orders : List (List ℕ) → Order → Type 0
Orders ws o = (rest : List (List ℕ)) × (ws ≡ first_word o ∷ rest) × Follows o rest

-- the words are no order's
abbrev pub NoOrder : List (List ℕ) → Type 0
NoOrder ws = (o : Order) → Orders ws o → ⊥
