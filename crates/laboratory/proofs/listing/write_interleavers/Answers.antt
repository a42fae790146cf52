use Rattle.std.proofs.Common.{◌≡◌, [], subst, ap, ◌∙◌, rules}
use Rattle.std.specs.Io.KnownBytes.{Appends}
use Rattle.std.specs.List.{flat_map, range_with_len}
use Rattle.laboratory.specs.Listing.{line_at}
use Rattle.laboratory.proofs.Listed.{text_more, all_interleavers}
use Rattle.laboratory.proofs.Sent.{appends_none, appends_both}
use Rattle.laboratory.proofs.listing.write_interleavers.Goals as goal

pub loop-interleaver-init : goal.loop-interleaver-init
loop-interleaver-init g c = appends_none (g.W.Write.contents c.args.output.now)

pub loop-interleaver-preserved : goal.loop-interleaver-preserved
loop-interleaver-preserved g c =
    let f = line_at c.args.bandwidth c.args.waveform in
    let old = g.W.Write.contents c.args.output.now in
    let new = g.W.Write.contents c.write_row.new.output in
    let i = c.loop-interleaver.interleaver in
    subst (Appends old new) (text_more f [] i)
    (appends_both old (g.W.Write.contents c.loop-interleaver.output) new (flat_map f (range_with_len 0 i)) (f i) c.loop-interleaver.invariant c.in_ok-write_row.ensures)

pub returns : goal.returns
returns g c =
    let f = line_at c.args.bandwidth c.args.waveform in
    let done : c.loop-interleaver.interleaver ≡ 8 = search rules in
    subst (Appends (g.W.Write.contents c.args.output.now) (g.W.Write.contents c.loop-interleaver.output))
    (ap (λ n. flat_map f (range_with_len 0 n)) done ∙ all_interleavers c.args.bandwidth c.args.waveform) c.loop-interleaver.invariant
