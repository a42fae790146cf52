use Rattle.std.proofs.Common.{◌≡◌, suc, ◌-◌, sym, ap, ◌∙◌, arith}
use Rattle.trellis.specs.Choice.{origin}
use Rattle.trellis.specs.Marks.{marked}
use Rattle.trellis.specs.Survivors.{before}
use Rattle.trellis.proofs.trellis.Trellis.origin.Goals as goal

pub loop-t-preserved : goal.loop-t-preserved
unfolding origin
loop-t-preserved c =
    let m = c.args.self.memory in
    let marks = marked m c.args.marks.now in
    let t = c.loop-t.t - 1 in
    let s = c.loop-t.from in
    let e : suc t ≡ c.loop-t.t = omega arith in
    let state : c.before-from.result ≡ before m (marks t s) s = c.before-from.ensures ∙ ap (λ b. before m b s) c.is_marked.ensures in
    ap (origin m marks t) state ∙ ap (λ n. origin m marks n s) e ∙ c.loop-t.invariant

pub returns : goal.returns
unfolding origin
returns c =
    let m = c.args.self.memory in
    let marks = marked m c.args.marks.now in
    let e : c.loop-t.t ≡ 0 = omega arith in
    ap (λ n. origin m marks n c.loop-t.from) (sym e) ∙ c.loop-t.invariant
