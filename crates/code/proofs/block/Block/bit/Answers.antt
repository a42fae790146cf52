use Rattle.std.proofs.Common.{◌≡◌, ◌-◌, ◌%◌, ◌<◌, ◌≤◌, eqb, get_or, sym, ap, ◌∙◌, mod-eq_of_lt, arith}
use Rattle.code.specs.Blocks.{block_scheme}
use Rattle.code.proofs.Blocks.{block_long, wrapped}
use Rattle.code.proofs.block.Block.bit.Goals as goal
use Rattle.code.proofs.block.Block.bit.Goals.{then-index-size, else-index-size}

pub returns : goal.returns
returns c =
    let s = block_scheme c.args.self.now in
    let xs = c.args.self.now.bytes.now in
    let index = c.args.index in
    let size = block_long s xs c.args.self.now.whole in
    let here : c.if-index-size.place ≡ index % s.block =
    elim c.if-index-size.branch [
      | then-index-size w ↦ let before : index < s.block = omega arith in w.place-is ∙ sym (mod-eq_of_lt before)
      | else-index-size w ↦ let past : s.block ≤ index = omega arith in w.place-is ∙ ap (λ n. index - n) size ∙ wrapped index s.block past c.requires
    ] in
    ap (λ p. eqb (get_or xs p 0) 1) here
