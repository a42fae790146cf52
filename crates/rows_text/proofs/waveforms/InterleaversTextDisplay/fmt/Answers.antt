use Rattle.std.proofs.Common.{rules, ◌≡◌, ap, ◌∙◌}
use Rattle.std.proofs.Output.{has_written_append, has_written_of_eq}
use Rattle.std.specs.List.{flat_map}
use Rattle.rows_text.specs.Bands.{interleaver_text}
use Rattle.rows_text.proofs.Counted.{first_rows, rows_all}
use Rattle.rows_text.proofs.Shown.{interleavers_more}
use Rattle.rows_text.proofs.waveforms.InterleaversTextDisplay.fmt.Goals as goal

pub loop-interleaver-preserved : goal.loop-interleaver-preserved
loop-interleaver-preserved g c = λ plain.
    let s = c.args.self.now in
    has_written_of_eq _ _ _ _ _ (interleavers_more s.bandwidth s.waveform c.loop-interleaver.interleaver c.entry.result c.entry.ensures.value)
    (has_written_append _ _ _ _ _ _ (c.loop-interleaver.invariant plain) (search rules))

pub returns-clause-writes : goal.returns-clause-writes
returns-clause-writes g c = λ plain ok.
    let s = c.args.self.now in
    let done : c.loop-interleaver.interleaver ≡ 4 = search rules in
    has_written_of_eq _ _ _ _ _ (ap (λ n. flat_map interleaver_text (first_rows s.bandwidth s.waveform n)) done ∙ ap (flat_map interleaver_text) (rows_all s.bandwidth s.waveform))
    (c.loop-interleaver.invariant plain)
