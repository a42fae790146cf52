use Rattle.std.proofs.Common.{◌<◌, ◌≤◌, ◌∙◌, arith}
use Rattle.lines.proofs.Written.{filled_room, filled_one, filled_none, filled_all}
use Rattle.lines.proofs.writing.octet.Goals as goal
use Rattle.lines.proofs.writing.octet.Goals.{then-bit-eq1, else-bit-eq1}

pub overflow_add-number : goal.overflow_add-number
overflow_add-number c = let few : c.loop-i.i < 8 = omega arith in omega (arith, c.loop-i.invariant, filled_room c.args.bits.now c.loop-i.i few)

pub loop-i-preserved : goal.loop-i-preserved
loop-i-preserved c =
    let few : c.loop-i.i < 8 = omega arith in
    elim c.if-bit-eq1.branch [
      | then-bit-eq1 w ↦ omega (arith, w.number-is, c.loop-i.invariant, filled_one c.args.bits.now c.loop-i.i few w.if-bit-eq1.true)
      | else-bit-eq1 w ↦ omega (arith, w.number-is, c.loop-i.invariant, filled_none c.args.bits.now c.loop-i.i few w.if-bit-eq1.false)
    ]

pub returns : goal.returns
returns c = let all : c.loop-i.i ≤ 8 = omega arith in c.loop-i.invariant ∙ filled_all c.args.bits.now c.loop-i.i c.loop-i-test.false all
