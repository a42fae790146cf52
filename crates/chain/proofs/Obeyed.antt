-- Which scrambler is settled, and what an order does.
-- Assumes nothing.
use Rattle.std.proofs.Common.{◌≡◌, ℕ, List, Result, Ok, Err, Option, Some, refl, sym, subst}
use Rattle.std.specs.Prelude.{IfOk}
use Rattle.orders.specs.declared.order.Order.{Order}
use Rattle.plan.specs.Scheme.{Scheme}
use Rattle.scrambler.specs.Meanings.{table_meaning}
use Rattle.scrambler.specs.declared.table.Table.{Table}
use Rattle.chain.specs.Obeying.{Settled, Obeyed}

-- where a file is named, the scrambler is some table
pub settled_some : {F E : Type 0} (r : Result Table E) (s : Scheme) (o : Option F) (name : F) → o ≡ Some name → IfOk r (λ t. Settled s o (table_meaning t))
settled_some (Ok t) s o name e = subst (λ p. Settled s p (table_meaning t)) (sym e) (t, refl)
settled_some (Err x) s o name e = tt

-- an order is obeyed as what it is
pub obeyed_as : (o p : Order) (text w x x2 y z z2 : Option (List ℕ)) → o ≡ p → x2 ≡ x → z2 ≡ z → Obeyed p text w x y z → Obeyed o text w x2 y z2
obeyed_as o p text w x x2 y z z2 e f h k =
    subst (λ q. Obeyed q text w x2 y z2) (sym e) (subst (λ a. Obeyed p text w a y z2) (sym f) (subst (λ a. Obeyed p text w x y a) (sym h) k))
