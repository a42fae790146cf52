use Rattle.std.proofs.Common.{rules, ◌≡◌, ◌+◌, ◌-◌, ap, refl, ◌∙◌, arith}
use Rattle.std.specs.List.{range_with_len, flat_map}
use Rattle.rows_text.specs.Columns.{waveform_rows, sums, stopped}
use Rattle.rows_text.proofs.Counted.{from_1, waveforms_all}
use Rattle.rows_text.proofs.Low.{none_stopped}
use Rattle.rows_text.proofs.sums.Sums.of.Goals as goal

pub loop-waveform-init : goal.loop-waveform-init
loop-waveform-init c = refl

pub loop-waveform-preserved : goal.loop-waveform-preserved
loop-waveform-preserved c =
    let rows = waveform_rows c.args.bandwidth in
    let w = c.loop-waveform.waveform in
    c.add_waveform.ensures (flat_map rows (range_with_len 1 (w - 1))) c.loop-waveform.invariant ∙ ap (λ l. stopped (sums l)) (from_1 rows w c.loop-waveform.auto.waveform)

pub returns : goal.returns
returns c =
    let done : c.loop-waveform.waveform ≡ 14 = search rules in
    c.loop-waveform.invariant
    ∙ ap (λ n. stopped (sums (flat_map (waveform_rows c.args.bandwidth) (range_with_len 1 (n - 1))))) done
    ∙ ap (λ l. stopped (sums l)) (waveforms_all c.args.bandwidth)
    ∙ none_stopped c.args.bandwidth
