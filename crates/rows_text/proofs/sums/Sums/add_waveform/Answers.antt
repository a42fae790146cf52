use Rattle.std.proofs.Common.{rules, ◌≡◌, List, [], ◌∷◌, ◌++◌, sym, ap, ◌∙◌, append-nil}
use Rattle.std.specs.List.{cons_option}
use Rattle.rows_text.specs.Columns.{sums, stopped}
use Rattle.rows_text.proofs.Counted.{first_rows, rows_all, row_joined}
use Rattle.rows_text.proofs.sums.Sums.add_waveform.Goals as goal
use Rattle.rows_text.proofs.sums.Sums.add_waveform.Goals.{in-Some, in_default}

pub loop-interleaver-init : goal.loop-interleaver-init
loop-interleaver-init c = λ before start. start ∙ ap (λ l. stopped (sums l)) (sym (append-nil before))

pub loop-interleaver-preserved : goal.loop-interleaver-preserved
loop-interleaver-preserved c = λ before start.
    let b = c.args.bandwidth in
    let w = c.args.waveform in
    let n = c.loop-interleaver.interleaver in
    let inv = c.loop-interleaver.invariant before start in
    let more = ap (λ l. stopped (sums l)) (row_joined before b w n c.entry.result c.entry.ensures.value) in
    elim c.match-entry.branch [
      | in-Some x ↦ x.self-is ∙ x.add.ensures (before ++ first_rows b w n) inv
          ∙ ap (λ o. stopped (sums ((before ++ first_rows b w n) ++ cons_option o []))) (sym x.in-Some.is) ∙ more
      | in_default x ↦ x.self-is ∙ inv ∙ ap (λ l. stopped (sums l)) (sym (append-nil (before ++ first_rows b w n)))
          ∙ ap (λ o. stopped (sums ((before ++ first_rows b w n) ++ cons_option o []))) (sym x.in_default.is) ∙ more
    ]

pub returns : goal.returns
returns c = λ before start.
    let done : c.loop-interleaver.interleaver ≡ 4 = search rules in
    c.loop-interleaver.invariant before start
    ∙ ap (λ n. stopped (sums (before ++ first_rows c.args.bandwidth c.args.waveform n))) done
    ∙ ap (λ l. stopped (sums (before ++ l))) (rows_all c.args.bandwidth c.args.waveform)
