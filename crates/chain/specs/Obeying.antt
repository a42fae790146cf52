-- What an order does with the files and the streams.
-- Assumes nothing.
use Rattle.std.specs.Prelude.{◌≡◌, ℕ, List, [], Some, None, Ok, Option}
use Rattle.std.specs.Io.KnownBytes.{Appends}
use Rattle.bits_text.specs.Blocks.{blocks}
use Rattle.comparison.specs.Comparing.{nothing, compared}
use Rattle.comparison.specs.Report.{report}
use Rattle.comparison.specs.declared.comparison.Comparison.{Comparison}
use Rattle.laboratory.specs.Listing.{rows_text, plan_text}
use Rattle.laboratory.specs.Sending.{on_air, bit_lines, drawn_blocks, Cut}
use Rattle.laboratory.specs.TableText.{TableRead}
use Rattle.laboratory.specs.Tabling.{OfRegister}
use Rattle.orders.specs.declared.order.Choice.{Choice}
use Rattle.orders.specs.declared.order.Drawing.{Drawing}
use Rattle.orders.specs.declared.order.Order.{Order}
use Rattle.orders.specs.declared.order.Order.TheVariants.{Rows, Plan, Send, Receive, Count}
use Rattle.orders.specs.declared.order.ScoreKind.{ScoreKind}
use Rattle.orders.specs.declared.order.ScoreKind.TheVariants.{Total, Worst, CountFirst}
use Rattle.plan.specs.Scheme.{Scheme}
use Rattle.reception.specs.Receiving.{ReceivedAll}
use Rattle.reception.specs.Written.{tally_text}
use Rattle.reception.specs.declared.written.ScoreText.{ScoreText}
use Rattle.reception.specs.declared.written.ScoreText.TheVariants.{Number}
use Rattle.receiver.specs.Views.{View}
use Rattle.replay.specs.Ledger.{ledger}
use Rattle.rows.specs.Schemes.{row_scheme}
use Rattle.score.specs.Kinds.{total_scale, worst_scale, count_scale}
use Rattle.score.specs.Scale.{Scale}
use Rattle.scrambler.specs.Meaning.{Meaning}
use Rattle.scrambler.specs.Meanings.{table_meaning}
use Rattle.scrambler.specs.declared.table.Table.{Table}
use Rattle.search.specs.Looking.{Lengths, search_answer}

-- the scheme is that of the chosen row, with the chosen constraint length
abbrev pub Chosen : Choice → Scheme → Type 0
Chosen c s = Some s ≡ row_scheme c.row c.constraint

-- without a text of values the scrambler is the register, with one it has the text's values, where it is known what the text holds
abbrev pub Scrambles : {R : Type 0} → (R → Option (List ℕ)) → Scheme → Option R → Table → Type 0
Scrambles remaining s None t = OfRegister s (table_meaning t)
Scrambles remaining s (Some text) t = (xs : List ℕ) → remaining text ≡ Some xs → TableRead s xs (Ok t)

-- where no file is named the scrambler is the register; of what a file holds nothing is claimed
abbrev pub Settled : {F : Type 0} → Scheme → Option F → Meaning → Type 0
Settled s None m = OfRegister s m
Settled s (Some name) m = (t : Table) × (m ≡ table_meaning t)

-- the blocks that are drawn, or else those of the text, are on the air and in the copy
abbrev pub Sent : Scheme → Meaning → Option Drawing → Option (List ℕ) → Option (List ℕ) → Option (List ℕ) → Option (List ℕ) → Option (List ℕ) → Type 0
Sent s m (Some d) text w v x y =
    Appends w v (on_air s m (drawn_blocks s.block d.seed d.blocks)) × Appends x y (bit_lines (drawn_blocks s.block d.seed d.blocks))
Sent s m None text w v x y =
    (xs : List ℕ) → text ≡ Some xs → (bs : List (List ℕ)) × Cut s.block xs bs × Appends w v (on_air s m bs) × Appends x y (bit_lines bs)

-- what is on the air alone
abbrev pub OnAir : Scheme → Meaning → Option Drawing → Option (List ℕ) → Option (List ℕ) → Option (List ℕ) → Type 0
OnAir s m (Some d) text w v = Appends w v (on_air s m (drawn_blocks s.block d.seed d.blocks))
OnAir s m None text w v = (xs : List ℕ) → text ≡ Some xs → (bs : List (List ℕ)) × Cut s.block xs bs × Appends w v (on_air s m bs)

-- a receiver that has heard nothing, and has memory enough for a look, is given every line of the text
pub record Answered {S : Type 0} (k : Scale S) (written : S → ScoreText) (v : View) (text w x y z : Option (List ℕ)) : Type 0 where
  pub whole : Lengths
  pub said : List ℕ
  pub aside : List ℕ
  pub enough : search_answer v.scheme whole ≡ 0
  pub received : ReceivedAll k written v whole text (ledger v whole []) said aside
  pub all : Appends w x said
  pub beside : Appends y z aside

-- scores are of the kind that is asked for
abbrev pub Received : ScoreKind → View → Option (List ℕ) → Option (List ℕ) → Option (List ℕ) → Option (List ℕ) → Option (List ℕ) → Type 0
Received Total v = Answered total_scale (λ score. Number score) v
Received Worst v = Answered worst_scale (λ score. Number score) v
Received CountFirst v = Answered count_scale (λ score. tally_text score) v

-- the counts of two texts are written
abbrev pub Counted : Option (List ℕ) → Option (List ℕ) → Option (List ℕ) → Option (List ℕ) → Type 0
Counted sent shown w v = (xs ys : List ℕ) → sent ≡ Some xs → shown ≡ Some ys → Appends w v (report (compared nothing (blocks xs) (blocks ys)))

-- what each order writes, and what it says on the side; of what is in files, and what is written to them, nothing is claimed
abbrev pub Obeyed : Order → Option (List ℕ) → Option (List ℕ) → Option (List ℕ) → Option (List ℕ) → Option (List ℕ) → Type 0
Obeyed Rows text w x y z = Appends w x rows_text
Obeyed (Plan c) text w x y z = (s : Scheme) × Chosen c s × Appends w x (plan_text c.row s)
Obeyed (Send c set) text w x y z =
    (s : Scheme) × Chosen c s × ((m : Meaning) × Settled s set.table m × OnAir s m set.drawing text w x)
Obeyed (Receive c set) text w x y z =
    (s : Scheme) × Chosen c s × ((m : Meaning) × Settled s set.table m × Received set.score (record { scheme = s; meaning = m }) text w x y z)
Obeyed (Count sent shown) text w x y z = (c : Comparison) × Appends w x (report c)
