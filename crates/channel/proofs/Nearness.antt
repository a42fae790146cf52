-- The nearest candidate.
-- Assumes nothing.
use Rattle.std.proofs.Common.{ℕ, Bool, true, false, cond}
use Rattle.std.specs.Float.Ieee.{Float, lt}
use Rattle.channel.specs.Plane.{with_candidate}
use Rattle.channel.specs.declared.decision.Nearest.{Nearest}

one_of : (P : Nearest → Type 0) (a b : Bool) (x y z : Nearest) → P x → P y → P z → P (cond a x (cond b y z))
one_of P true b x y z p q r = p
one_of P false true x y z p q r = q
one_of P false false x y z p q r = r

-- what holds of the nearest so far and of a candidate holds of the nearest with it
pub with_one : (P : ℕ → Type 0) (n : Nearest) (index : ℕ) (distance : Float) → P n.index → P index → P (with_candidate n index distance).index
with_one P n index distance before more = one_of (λ m. P m.index) (lt distance n.near) (lt distance n.next) _ _ n more before before
