-- What a sender keeps while it writes indices.
-- Assumes nothing.
use Rattle.std.proofs.Common.{◌≡◌, vec_items, ◌∙◌}
use Rattle.plan.specs.Plans.{plan_scheme}
use Rattle.scrambler.specs.Meaning.{Meaning}
use Rattle.scrambler.specs.declared.scrambler.Scrambler.{Ghosts}
use Rattle.sender.specs.Senders.{sender_index, Kept}
use Rattle.sender.specs.Transmission.{index_at}
use Rattle.sender.specs.declared.sender.Sender.{Sender}

module _ {S : Type 0} {g : Ghosts S} (meaning : S → Meaning) (x y : Sender S g) where
  pub same_index : Kept meaning x y → sender_index meaning y ≡ sender_index meaning x
  same_index k = λ i. index_at (plan_scheme (k.0 i)) (k.2 i) (vec_items (k.1 i))

  pub kept_on : (z : Sender S g) → Kept meaning x y → Kept meaning y z → Kept meaning x z
  kept_on z k l = (l.0 ∙ k.0, l.1 ∙ k.1, l.2 ∙ k.2)
