use Rattle.std.proofs.Common.{◌<◌, length, replicate, sym, ◌∙◌, arith}
use Rattle.std.proofs.lemmas.List.{ext_get_or, length-replicate, get_or-replicate}
use Rattle.trellis.proofs.column.Column.fill.Goals as goal

pub returns : goal.returns
returns g c =
    let n = length c.args.self.now.scores.now in
    ext_get_or c.args.score c.loop-place.place-items (replicate n c.args.score)
    (c.loop-place.auto.place-items ∙ sym (length-replicate n c.args.score))
    (λ i l.
    let k : i < n = omega arith in
    c.loop-place.invariant i (omega arith) ∙ sym (get_or-replicate n i c.args.score c.args.score k))
