-- Which file is the copy.
-- Assumes nothing.
use Rattle.std.specs.Prelude.{◌≡◌, ℕ, List, codes, Some, None, Option}
use Rattle.std.specs.Borrow.{Bor}
use Rattle.orders.specs.declared.order.Drawing.{Drawing}

-- the file is the one that is named; without one it is sent.txt for blocks that are drawn, and there is none for others
abbrev pub CopyIs : Option Drawing → Option (Bor (List ℕ)) → Option (Bor (List ℕ)) → Type 0
CopyIs drawing (Some name) file = file ≡ Some name
CopyIs (Some d) None (Some name) = name.now ≡ codes "sent.txt"
CopyIs (Some d) None None = ⊥
CopyIs None None file = file ≡ None
