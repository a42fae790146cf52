use Rattle.std.proofs.Common.{◌≡◌, ◌++◌, subst, ap, ◌∙◌, rules}
use Rattle.std.specs.Io.KnownBytes.{Appends}
use Rattle.std.specs.List.{flat_map, range_with_len}
use Rattle.laboratory.specs.Listing.{heading, bandwidth_lines}
use Rattle.laboratory.proofs.Listed.{text_more, all_bandwidths}
use Rattle.laboratory.proofs.Sent.{appends_both}
use Rattle.laboratory.proofs.listing.write_rows.Goals as goal

pub loop-bandwidth-init : goal.loop-bandwidth-init
loop-bandwidth-init g c = c.in_ok-write.ensures.bytes

pub loop-bandwidth-preserved : goal.loop-bandwidth-preserved
loop-bandwidth-preserved g c =
    let old = g.W.Write.contents c.args.output.now in
    let new = g.W.Write.contents c.write_waveforms.new.output in
    let i = c.loop-bandwidth.bandwidth in
    subst (Appends old new) (text_more bandwidth_lines heading i)
    (appends_both old (g.W.Write.contents c.loop-bandwidth.output) new (heading ++ flat_map bandwidth_lines (range_with_len 0 i)) (bandwidth_lines i)
    c.loop-bandwidth.invariant c.in_ok-write_waveforms.ensures)

pub returns : goal.returns
returns g c =
    let done : c.loop-bandwidth.bandwidth ≡ 64 = search rules in
    subst (Appends (g.W.Write.contents c.args.output.now) (g.W.Write.contents c.loop-bandwidth.output))
    (ap (λ n. heading ++ flat_map bandwidth_lines (range_with_len 0 n)) done ∙ ap (λ l. heading ++ l) all_bandwidths) c.loop-bandwidth.invariant
