-- What a sender follows, and what it holds.
-- Assumes nothing.
use Rattle.std.specs.Prelude.{◌≡◌, ℕ, vec_items}
use Rattle.plan.specs.Plans.{plan_scheme}
use Rattle.plan.specs.Scheme.{Scheme}
use Rattle.scrambler.specs.Meaning.{Meaning}
use Rattle.scrambler.specs.declared.scrambler.Scrambler.{Ghosts}
use Rattle.sender.specs.Transmission.{index_at}
use Rattle.sender.specs.declared.sender.Sender.{Sender}

-- the coding scheme of the plan that it was lent
abbrev pub sender_scheme : {S : Type 0} {g : Ghosts S} → Sender S g → Scheme
sender_scheme x = plan_scheme x.plan.now

-- the on-air index of symbol i of the interleaver array that it holds
abbrev pub sender_index : {S : Type 0} {g : Ghosts S} → (S → Meaning) → Sender S g → ℕ → ℕ
sender_index meaning x = index_at (plan_scheme x.plan.now) (meaning x.scrambler) (vec_items x.array)

-- the plan, the array, and what the scrambler means are kept
abbrev pub Kept : {S : Type 0} {g : Ghosts S} → (S → Meaning) → Sender S g → Sender S g → Type 0
Kept meaning old new = (new.plan.now ≡ old.plan.now) × (new.array ≡ old.array) × (meaning new.scrambler ≡ meaning old.scrambler)
