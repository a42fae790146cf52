-- The view of a receiver.
-- Assumes nothing.
use Rattle.plan.specs.Plans.{plan_scheme}
use Rattle.plan.specs.declared.plan.Plan.{Plan}
use Rattle.scrambler.specs.Meaning.{Meaning}
use Rattle.scrambler.specs.declared.scrambler.Scrambler.{Ghosts}
use Rattle.receiver.specs.Views.{View}
use Rattle.receiver.specs.declared.receiver.Receiver.{Receiver}

-- the view of a plan and of a scrambler with this meaning
abbrev pub view : Plan → Meaning → View
view p m = record { scheme = plan_scheme p; meaning = m }

-- the view of a receiver, by what its scrambler means
abbrev pub view_of : {S : Type 0} {g : Ghosts S} → (S → Meaning) → Receiver S g → View
view_of meaning r = view r.plan (meaning r.scrambler)
