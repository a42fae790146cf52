use Rattle.std.proofs.Common.{IfSome, ◌≡◌, ◌≤◌, true, vec_items, sym, ap, subst, arith}
use Rattle.std.specs.Option.{option_map}
use Rattle.std.specs.Vec.{with_items}
use Rattle.std.proofs.lemmas.List.{with_items_is}
use Rattle.std.proofs.lemmas.Bool.{and_parts, leb-true}
use Rattle.lines.specs.Plans.{size_fits}
use Rattle.lines.specs.declared.answer.Answer.TheVariants.{Shown}
use Rattle.lines.specs.declared.command.Command.TheVariants.{Look}
use Rattle.plan.specs.Plans.{plan_scheme}
use Rattle.receiver.specs.Receivers.{view_of}
use Rattle.scrambler.specs.Meanings.{table_meaning}
use Rattle.session.specs.Held.{ShowsBest, Shows}
use Rattle.session.specs.Sessions.{held}
use Rattle.session.proofs.Called.{answers_there, accepted_changes}
use Rattle.session.proofs.session.Session.show.Goals as goal

pub look-requires : goal.look-requires
look-requires c =
    let s = plan_scheme c.in-Some.receiver.plan in
    let small : size_fits s ≡ true = subst (λ o. IfSome o (λ r. size_fits (plan_scheme r.plan) ≡ true)) c.in-Some.is c.args.self.now.small_receiver in
    let low : s.block ≤ 256 = leb-true _ _ (and_parts _ _ small).0 in
    let asked = ap (λ p. p.parts.block_length) c.plan.ensures in
    let size = ap (λ p. p.block_length) c.parts.ensures in
    record {
      small = small;
      values = omega (arith, c.as_slice.ensures.len, c.args.self.now.values);
      block = omega (arith, c.as_mut_slice.ensures.len, c.truncate.ensures.len, c.args.room.whole, asked, size);
      scores = omega (arith, c.as_mut_slice-2.ensures.len, c.args.self.now.columns);
      marks = omega (arith, c.as_mut_slice-3.ensures.len, c.args.self.now.marks_of_all);
    }

pub returns : goal.returns
returns c =
    let s = c.args.self.now in
    let number = answers_there (view_of table_meaning) s.receiver c.in-Some.receiver (λ v. 0) c.in-Some.is in
    let e = c.in_ok-score.ensures in
    let whole = with_items_is c.truncate.new.self c.look.new.block (omega arith) in
    record {
      answer = number;
      after = accepted_changes (held s) Look number;
      reply =
          subst (λ o. ShowsBest (option_map (view_of table_meaning) o) (vec_items s.memory) (Shown c.in_ok-score.score (with_items c.truncate.new.self c.look.new.block))) (sym c.in-Some.is)
          (subst (λ l. Shows (view_of table_meaning c.in-Some.receiver) (vec_items s.memory) c.in_ok-score.score l) (sym whole)
          (subst (λ l. Shows (view_of table_meaning c.in-Some.receiver) l c.in_ok-score.score c.look.new.block) c.as_slice.ensures.value e.shows));
    }
