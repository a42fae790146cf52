use Rattle.std.proofs.Common.{◌^◌, sym, ap, ◌∙◌, arith}
use Rattle.std.proofs.lemmas.Bool.{cond-true, true≢false}
use Rattle.code.specs.Numbers.{bits_of}
use Rattle.plan.specs.Plans.{plan_scheme}
use Rattle.plan.proofs.Facts.{facts}
use Rattle.score.specs.Blocks.{value_at}
use Rattle.trellis.specs.Choice.{final, winner}
use Rattle.search.specs.Searching.{memory, steps}
use Rattle.search.proofs.Finding.{found, shown_bits}
use Rattle.search.proofs.Rooms.{room}
use Rattle.search.proofs.looking.search_with_trips.Goals as goal

pub invariant_of-workspace : goal.invariant_of-workspace
invariant_of-workspace g c =
    let o = c.of.ensures in
    let r = room (plan_scheme c.args.plan.now) c.of.result.memory c.of.result.size _ o.memory o.size (sym c.if-not-has_room.ensures) in
    record { before_fits = r.old; after_fits = r.new; marks_fit = r.marks }

pub returns : goal.returns
returns g c =
    let k = g.K.Kind.scale c.args.kind.now in
    let p = c.args.plan.now in
    let s = plan_scheme p in
    let values = value_at c.args.values.now in
    let st = steps k s values in
    let o = c.of.ensures in
    let long = sym c.if-not-has_room.ensures in
    let r = room s c.of.result.memory c.of.result.size _ o.memory o.size long in
    record {
      answer = sym (cond-true _ _ _ long);
      found = found k s values (g.met.K.Kind.lawful c.args.kind.now) (facts s p.accepted) _ c.pick-score.result
          (λ i l. ap (λ bytes. bits_of bytes i) c.pick-score.ensures.block ∙ shown_bits k s values c.args.block.now i l r.block)
          (c.pick-score.ensures.score ∙ ap (λ m. final st m c.of.result.size (winner st m c.of.result.size (2 ^ m))) o.memory
          ∙ ap (λ n. final st (memory s) n (winner st (memory s) n (2 ^ memory s))) o.size);
      trips = omega (arith, c.pick-score.ensures.trips, ap (λ m. 2 ^ m) o.memory);
      block = c.pick-score.ensures.block;
      old = λ e. absurd (true≢false e);
      new = λ e. absurd (true≢false e);
      marks = λ e. absurd (true≢false e);
    }
