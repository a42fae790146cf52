use Rattle.std.proofs.Common.{rules, ◌≡◌, ap, ◌∙◌, subst}
use Rattle.std.proofs.KnownBytes.{Appends-nil, Appends-trans}
use Rattle.std.specs.Io.KnownBytes.{Appends}
use Rattle.std.specs.List.{range_with_len, flat_map}
use Rattle.rows_text.specs.Bands.{band_part}
use Rattle.rows_text.proofs.Counted.{from_0}
use Rattle.rows_text.proofs.Shown.{bands_all}
use Rattle.rows_text.proofs.bands.write_bands.Goals as goal

pub loop-bandwidth-init : goal.loop-bandwidth-init
loop-bandwidth-init g c = Appends-nil (g.W.Write.contents c.args.output.now)

pub loop-bandwidth-preserved : goal.loop-bandwidth-preserved
loop-bandwidth-preserved g c =
    let n = c.loop-bandwidth.bandwidth in
    subst (Appends (g.W.Write.contents c.args.output.now) (g.W.Write.contents c.write_band.new.output)) (from_0 band_part n)
    (Appends-trans (g.W.Write.contents c.args.output.now) (g.W.Write.contents c.loop-bandwidth.output) (g.W.Write.contents c.write_band.new.output)
    (flat_map band_part (range_with_len 0 n)) (band_part n) c.loop-bandwidth.invariant c.in_ok-write_band.ensures)

pub returns : goal.returns
returns g c =
    let done : c.loop-bandwidth.bandwidth ≡ 64 = search rules in
    subst (Appends (g.W.Write.contents c.args.output.now) (g.W.Write.contents c.loop-bandwidth.output))
    (ap (λ n. flat_map band_part (range_with_len 0 n)) done ∙ bands_all) c.loop-bandwidth.invariant
