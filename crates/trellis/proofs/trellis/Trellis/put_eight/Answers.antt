use Rattle.std.proofs.Common.{◌≡◌, ◌/◌, ◌^◌, ltb, set, sym, ap, ◌∙◌, arith}
use Rattle.std.proofs.lemmas.Bool.{cond-true, and_from, lt-ltb}
use Rattle.trellis.specs.Marks.{mark_place, marked}
use Rattle.trellis.proofs.Places.{marked_with, place_is, row_is, group_below}
use Rattle.trellis.proofs.trellis.Trellis.put_eight.Goals as goal

pub returns-then-group-self : goal.returns-then-group-self
returns-then-group-self c =
    let s = c.args.self in
    let m = s.memory in
    let row = row_is m s.row s.rows in
    let inside = and_from (ltb c.args.t s.size) (ltb c.args.group (2 ^ m / 8)) (lt-ltb _ _ c.if-t-self.true) (lt-ltb _ _ (omega arith)) in
    let put : c.put_at.new.items ≡ set c.args.marks.now (mark_place m c.args.t c.args.group) c.args.eight =
    c.put_at.ensures ∙ ap (λ p. set c.args.marks.now p c.args.eight) (place_is m s.row c.args.t c.args.group s.rows) in
    record {
      after = put ∙ sym (cond-true _ _ _ inside);
      marks = λ _ a l i j b. ap (λ bytes. marked m bytes i j) put
          ∙ marked_with m c.args.marks.now c.args.t c.args.group c.args.eight i j a l (group_below m s.row j s.rows b);
    }
