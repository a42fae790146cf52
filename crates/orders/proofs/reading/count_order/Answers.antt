use Rattle.std.proofs.Common.{rules, inl, inr, arith}
use Rattle.std.proofs.lemmas.Bool.{ltb-true}
use Rattle.std.proofs.lemmas.Bool.Decides.{nat_tests}
use Rattle.orders.specs.Slips.{count_files}
use Rattle.orders.proofs.Words.{not_two}
use Rattle.orders.proofs.reading.count_order.Goals as goal
use Rattle.orders.proofs.reading.count_order.Goals.{in_default-via-then-words-lt2, in_default-via-else-words-lt2+else-words-lt3}

pub returns-in_default : goal.returns-in_default
returns-in_default c =
    count_files (not_two c.args.words.now
    (elim c.in_default.branch [ in_default-via-then-words-lt2 w ↦ inl (first_of (omega (arith, ltb-true), grind (arith, nat_tests), search rules)) | in_default-via-else-words-lt2+else-words-lt3 w ↦ inr (first_of (omega (arith, ltb-true), grind (arith, nat_tests), search rules)) ]))
