use Rattle.std.proofs.Common.{◌≡◌, suc, ◌-◌, get_or, set, sym, ap, ◌∙◌, arith}
use Rattle.code.specs.Numbers.{digit}
use Rattle.trellis.specs.Choice.{back}
use Rattle.trellis.specs.Marks.{marked, overwritten}
use Rattle.trellis.specs.Survivors.{before}
use Rattle.trellis.proofs.Bits.{byte_digit}
use Rattle.trellis.proofs.Written.{overwritten_back, overwritten_at, overwritten_past}
use Rattle.trellis.proofs.trellis.Trellis.trace_back.Goals as goal

pub loop-t-preserved : goal.loop-t-preserved
loop-t-preserved c =
    let m = c.args.self.memory in
    let marks = marked m c.args.marks.now in
    let t = c.loop-t.t - 1 in
    let s = c.loop-t.state in
    let e : suc t ≡ c.loop-t.t = omega arith in
    let bit : c.is_marked-bit.result ≡ marks t s = c.is_marked-bit.ensures in
    let from : c.from.result ≡ digit (marks t s) = c.from.ensures ∙ byte_digit c.is_marked-bit.result ∙ ap digit bit in
    let byte : c.put_at.new.items ≡ set c.loop-t.block t (digit (marks t s)) = c.put_at.ensures ∙ ap (set c.loop-t.block t) from in
    let state : c.before-state.result ≡ before m (marks t s) s = c.before-state.ensures ∙ ap (λ b. before m b s) bit in
    ap (overwritten t (back m marks t c.before-state.result)) byte
    ∙ ap (λ x. overwritten t (back m marks t x) (set c.loop-t.block t (digit (marks t s)))) state
    ∙ overwritten_back m marks t s c.loop-t.block
    ∙ ap (λ n. overwritten n (back m marks n s) c.loop-t.block) e
    ∙ c.loop-t.invariant

pub returns : goal.returns
unfolding overwritten
returns c =
    let m = c.args.self.memory in
    let n = c.args.self.size in
    let marks = marked m c.args.marks.now in
    let u = back m marks n c.args.end in
    let bytes = c.args.block.now in
    let e : c.loop-t.t ≡ 0 = omega arith in
    let whole : c.loop-t.block ≡ overwritten n u bytes =
    ap (λ k. overwritten k (back m marks k c.loop-t.state) c.loop-t.block) (sym e) ∙ c.loop-t.invariant in
    record {
      after = whole;
      bits = λ i l h. ap (λ b. get_or b i 0) whole ∙ overwritten_at n u bytes i l h;
      rest = λ i l. ap (λ b. get_or b i 0) whole ∙ overwritten_past n u bytes i l;
    }
