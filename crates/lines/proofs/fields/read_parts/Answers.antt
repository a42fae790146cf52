use Rattle.std.proofs.Common.{◌≡◌, ◌%◌, ◌<◌, ◌++◌, length, get_or, vec_len, ap, ◌∙◌, arith, rules}
use Rattle.std.proofs.lemmas.Bool.{cond-true}
use Rattle.plan.specs.Scheme.{Scheme}
use Rattle.lines.proofs.Fielded.{spelled, parts_read, typed_bytes}
use Rattle.lines.proofs.fields.read_parts.Goals as goal

pub returns : goal.returns
returns c =
    let list = c.args.list.now in
    let last = c.args.last.now in
    let room = c.args.room in
    let none : vec_len room ≡ 0 = omega (arith, room.ok.0, ap length c.requires.empty) in
    let taken = c.extend_from_slice.ensures.succeeds (omega (arith, c.requires.small, c.requires.fits)) in
    let same_list : c.extend_from_slice.new.self.items ≡ list = c.extend_from_slice.ensures.items ∙ cond-true _ _ _ taken ∙ ap (λ l. l ++ list) c.requires.empty in
    let s : Scheme = record {
      constraint = c.from.result;
      period = c.from-2.result;
      entries = c.extend_from_slice.new.self.items;
      block = c.three-block_length.result;
      bits = c.from-3.result;
      frame = c.from-4.result;
      increment = c.three-increment.result;
    } in
    let long : length last ≡ 9 = search rules in
    let bits : get_or last 3 0 < 256 = (c.type_inv.last 3).fits in
    let same : c.from-3.result % 256 ≡ get_or last 3 0 = omega (arith, c.from-3.ensures) in
    parts_read s c.args.constraint c.args.period list last c.from.ensures c.from-2.ensures same_list
    (c.ranges.constraint.fits, c.ranges.period.fits, c.requires.small, typed_bytes list c.type_inv.list)
    (c.three-block_length.ensures.small, (omega (arith, c.from-3.ensures), (omega (arith, c.from-4.ensures, c.two-frame_length.type_inv), (c.three-increment.ensures.small, tt))))
    (cc (spelled 9 last long, c.three-block_length.ensures.value, c.two-frame_length.ensures, c.three-increment.ensures.value, c.from-4.ensures, same))
