use Rattle.std.proofs.Common.{◌≡◌, ◌+◌, ◌≤◌, ◌++◌, length, vec_items}
use Rattle.std.specs.Iterator.Adapters.{enumerate_source, enumerate_count, zip_first, zip_second}
use Rattle.std.specs.Slice.Iter.{iter_rest}
use Rattle.rows.specs.Masks.{puncture_of}
use Rattle.rows.specs.Patterns.{listed, send_list}
use Rattle.rows.proofs.pattern.Pattern.send_list.Given as goal

-- what is listed, and what the columns that are left give, is the whole list
abbrev pub invariant-loop-column : goal.invariant-loop-column
invariant-loop-column l = record {
  narrow : enumerate_count l.column-iterator + length (iter_rest (zip_first (enumerate_source l.column-iterator))) ≤ 12;
  whole : vec_items l.list
      ++ listed l.self.repeats (enumerate_count l.column-iterator)
      (iter_rest (zip_first (enumerate_source l.column-iterator))) (iter_rest (zip_second (enumerate_source l.column-iterator)))
      ≡ send_list (puncture_of l.self);
}
