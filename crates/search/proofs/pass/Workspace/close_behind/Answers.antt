use Rattle.std.proofs.Common.{◌≡◌, Bool, List, ◌&&◌, cond, set, false, sym, ap, ◌∙◌}
use Rattle.trellis.specs.Bounds.{ahead}
use Rattle.search.specs.Searching.{column}
use Rattle.search.specs.Stepping.{scale_of}
use Rattle.search.proofs.Closing.{closed_more}
use Rattle.search.proofs.pass.Workspace.close_behind.Goals as goal
use Rattle.search.proofs.pass.Workspace.close_behind.Goals.{then-shares, else-shares}

pub loop-other-preserved : goal.loop-other-preserved
loop-other-preserved g c =
    let p = c.args.self.now.pass.now in
    let n = c.loop-other.other in
    let left = c.loop-other.numbers.left in
    let behind = ahead (scale_of p).no_worse c.args.score c.args.lead (column (scale_of p) c.args.self.now.before.now.scores.now n) n in
    let to : Bool → List Bool = λ b. cond (b && behind) (set left n false) left in
    elim c.if-shares.branch [
      | then-shares w ↦
          closed_more _ _ n left _ (ap (λ x. x.left) w.numbers-is ∙ w.hold.ensures ∙ w.close_if_behind.ensures ∙ ap to (sym w.if-shares.true) ∙ ap to c.shares.ensures) c.loop-other.invariant
      | else-shares w ↦
          closed_more _ _ n left _ (ap (λ x. x.left) w.numbers-is ∙ ap to (sym w.if-shares.false) ∙ ap to c.shares.ensures) c.loop-other.invariant
    ]
