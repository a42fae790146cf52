use Rattle.std.proofs.Common.{◌/◌, ◌%◌, get_or, ap, ◌∙◌, rules}
use Rattle.trellis.specs.Marks.{lit, marked}
use Rattle.trellis.proofs.Places.{place_is}
use Rattle.trellis.proofs.trellis.Trellis.is_marked.Goals as goal

pub returns : goal.returns
unfolding marked
returns c =
    let s = c.args.self in
    let i = c.args.state in
    c.is_lit.ensures ∙ ap (λ b. lit b (i % 8)) (search rules)
    ∙ ap (λ p. lit (get_or c.args.marks.now p 0) (i % 8)) (place_is s.memory s.row c.args.t (i / 8) s.rows)
