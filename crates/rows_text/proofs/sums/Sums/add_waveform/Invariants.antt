use Rattle.std.proofs.Common.{◌≡◌, List, ◌++◌}
use Rattle.rows.specs.declared.row.Entry.{Entry}
use Rattle.rows_text.specs.Columns.{sums, stopped}
use Rattle.rows_text.proofs.Counted.{first_rows}
use Rattle.rows_text.proofs.sums.Sums.add_waveform.Given as goal

-- the interleavers so far are added
abbrev pub invariant-loop-interleaver : goal.invariant-loop-interleaver
invariant-loop-interleaver l =
    (before : List Entry) → l.fn.self ≡ stopped (sums before) → l.self ≡ stopped (sums (before ++ first_rows l.bandwidth l.waveform l.interleaver))
