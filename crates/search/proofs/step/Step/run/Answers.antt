use Rattle.std.proofs.Common.{◌/◌, ◌^◌, ◌<◌, arith}
use Rattle.search.proofs.Rows.{filled_more, place_below}
use Rattle.search.proofs.step.Step.run.Goals as goal

pub loop-group-preserved : goal.loop-group-preserved
loop-group-preserved g c =
    let s = c.args.self.now.pass.now.trellis in
    let group = c.loop-group.group in
    let rows = s.rows in
    let below : group < s.row = omega arith in
    let row : group < 2 ^ s.memory / 8 = omega arith in
    let room = place_below s.memory s.size s.row c.args.t group _ rows c.requires.time below c.requires.room in
    let e = c.eight-byte.ensures in
    filled_more _ _ _ _ _ _ _ group c.eight-byte.result c.loop-group.new.scores.now c.loop-group.marks _ _
    e.marks e.scores e.before e.len (c.put_eight.ensures.marks c.requires.time row (omega (arith, c.loop-group.auto.marks))) c.loop-group.invariant

pub returns : goal.returns
returns g c =
    let f = c.loop-group.invariant in
    let rows = c.args.self.now.pass.now.trellis.rows in
    record {
      scores = λ s l. f.scored s (omega arith);
      marks = λ s l. f.here s (omega arith) l;
      others = f.others;
      len = f.len;
    }
