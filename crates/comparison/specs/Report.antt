-- What is counted, as text.
-- Assumes nothing.
use Rattle.std.specs.Prelude.{ℕ, cond, List, [], ◌∷◌, ◌++◌, codes, ◌==◌}
use Rattle.std.specs.Fmt.{decimal}
use Rattle.errors.specs.declared.Count.{Count}
use Rattle.comparison.specs.declared.comparison.Comparison.{Comparison}

-- blocks, bits, bit errors, block errors
abbrev pub numbers : Count → List ℕ
numbers c =
    decimal c.blocks ++ (32 ∷ (decimal c.bits ++ (32 ∷ (decimal c.bit_errors ++ (32 ∷ (decimal c.block_errors ++ (10 ∷ [])))))))

-- a comment, where there is something to say
abbrev pub remark : List ℕ → ℕ → List ℕ
remark what n = cond (n == 0) [] (codes "# " ++ (what ++ (codes ": " ++ (decimal n ++ (10 ∷ [])))))

abbrev pub report : Comparison → List ℕ
report c =
    codes "# blocks bits bit_errors block_errors\n" ++ (numbers c.count
    ++ (remark (codes "blocks of another length than was sent") c.unequal
    ++ (remark (codes "blocks sent and not shown") c.sent_alone
    ++ remark (codes "blocks shown and not sent") c.shown_alone)))
