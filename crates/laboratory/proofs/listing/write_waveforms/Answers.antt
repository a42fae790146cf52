use Rattle.std.proofs.Common.{◌≡◌, [], subst, ap, ◌∙◌, rules}
use Rattle.std.specs.Io.KnownBytes.{Appends}
use Rattle.std.specs.List.{flat_map, range_with_len}
use Rattle.laboratory.specs.Listing.{waveform_lines}
use Rattle.laboratory.proofs.Listed.{text_more, all_waveforms}
use Rattle.laboratory.proofs.Sent.{appends_none, appends_both}
use Rattle.laboratory.proofs.listing.write_waveforms.Goals as goal

pub loop-waveform-init : goal.loop-waveform-init
loop-waveform-init g c = appends_none (g.W.Write.contents c.args.output.now)

pub loop-waveform-preserved : goal.loop-waveform-preserved
loop-waveform-preserved g c =
    let f = waveform_lines c.args.bandwidth in
    let old = g.W.Write.contents c.args.output.now in
    let new = g.W.Write.contents c.write_interleavers.new.output in
    let i = c.loop-waveform.waveform in
    subst (Appends old new) (text_more f [] i)
    (appends_both old (g.W.Write.contents c.loop-waveform.output) new (flat_map f (range_with_len 0 i)) (f i) c.loop-waveform.invariant c.in_ok-write_interleavers.ensures)

pub returns : goal.returns
returns g c =
    let f = waveform_lines c.args.bandwidth in
    let done : c.loop-waveform.waveform ≡ 32 = search rules in
    subst (Appends (g.W.Write.contents c.args.output.now) (g.W.Write.contents c.loop-waveform.output))
    (ap (λ n. flat_map f (range_with_len 0 n)) done ∙ all_waveforms c.args.bandwidth) c.loop-waveform.invariant
