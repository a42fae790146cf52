use Rattle.std.proofs.Common.{◌≡◌, true, length, IfSome, Some, vec_items, sym, refl, ap, ◌∙◌, subst, arith}
use Rattle.std.specs.Option.{option_map}
use Rattle.std.proofs.lemmas.List.{with_items_is}
use Rattle.std.proofs.lemmas.Result.{err_from_is_err_and}
use Rattle.lines.specs.Plans.{size_fits}
use Rattle.lines.specs.declared.command.Command.TheVariants.{Table as TableLine}
use Rattle.plan.specs.Plans.{plan_scheme}
use Rattle.receiver.specs.Receivers.{view_of}
use Rattle.scrambler.specs.Meanings.{table_meaning}
use Rattle.sender.specs.Scrambling.{needed_width}
use Rattle.receiver.specs.Values.{after_making}
use Rattle.session.specs.Held.{by_table, with_table}
use Rattle.session.specs.Sessions.{held}
use Rattle.session.proofs.Called.{holding, refused_keeps, accepted_changes}
use Rattle.session.proofs.Tabled.{table_refused, table_made_then}
use Rattle.session.proofs.session.Session.take_table.Goals as goal

pub invariant_of-self-2 : goal.invariant_of-self-2
invariant_of-self-2 c =
    let s = c.args.self.now in
    record {
      small_plan = s.small_plan;
      small_receiver =
          ap (λ v. size_fits v.scheme) c.in_ok-receiver.ensures.made ∙ ap size_fits c.copy.ensures
          ∙ subst (λ o. IfSome o (λ p. size_fits (plan_scheme p) ≡ true)) c.in-Some.is s.small_plan;
      values = s.values;
      columns = s.columns;
      marks_of_all = s.marks_of_all;
    }

pub returns-in_err-table : goal.returns-in_err-table
returns-in_err-table c =
    let s = c.args.self.now in
    let f = c.in_err-table.field-0.0 in
    let p = err_from_is_err_and c.from_residual.result c.from_residual.ensures.1 in
    let width = c.needed_width.ensures ∙ ap (λ q. needed_width q.symbol_bits) c.parts.ensures in
    let number = table_refused s c.in-Some.plan c.in-Some.is c.args.values c.needed_width.result width f c.in_err-table.ensures.answer in
    rw (p.1, p.2) (record { answer = number; after = refused_keeps (held s) (TableLine c.args.values) f number; reply = tt })

pub returns-in_err-receiver : goal.returns-in_err-receiver
returns-in_err-receiver c =
    let s = c.args.self.now in
    let f = c.in_err-receiver.field-0.0 in
    let e = c.in_err-receiver.ensures in
    let t = c.in_ok-table.ensures in
    let p = err_from_is_err_and c.from_residual-in_err-receiver.result c.from_residual-in_err-receiver.ensures.1 in
    let width = c.needed_width.ensures ∙ ap (λ q. needed_width q.symbol_bits) c.parts.ensures in
    let lent = c.as_mut_slice.ensures.value in
    let number = table_made_then s c.in-Some.plan c.in-Some.is c.args.values c.needed_width.result width c.copy.result (table_meaning c.in_ok-table.table) _ _ t.answer c.copy.ensures t.made (ap length lent) e.answer in
    let kept = with_items_is s.memory c.new-2.new.memory (omega arith) ∙ e.after ∙ lent in
    rw (p.1, p.2)
    (record { answer = number; after = ap (holding (held s).plan (held s).receiver) kept ∙ refused_keeps (held s) (TableLine c.args.values) f number; reply = tt })

pub returns : goal.returns
returns c =
    let s = c.args.self.now in
    let e = c.in_ok-receiver.ensures in
    let t = c.in_ok-table.ensures in
    let p = c.in-Some.plan in
    let width = c.needed_width.ensures ∙ ap (λ q. needed_width q.symbol_bits) c.parts.ensures in
    let lent = c.as_mut_slice.ensures.value in
    let number = table_made_then s p c.in-Some.is c.args.values c.needed_width.result width c.copy.result (table_meaning c.in_ok-table.table) _ _ t.answer c.copy.ensures t.made (ap length lent) e.answer in
    let values = with_items_is s.memory c.new-2.new.memory (omega arith) ∙ e.after ∙ (λ i. after_making (c.copy.ensures i) (lent i)) in
    let view : view_of table_meaning c.in_ok-receiver.receiver ≡ by_table (plan_scheme p) (vec_items c.args.values) =
    e.made ∙ (λ i. record { scheme = c.copy.ensures i; meaning = (t.made ∙ ap (λ w. record { width = w; values = vec_items c.args.values }) width) i }) in
    record {
      answer = number;
      after =
          (λ i. holding (held s).plan (Some (view i)) (values i))
          ∙ ap (λ o. with_table (held s) (option_map plan_scheme o) (vec_items c.args.values)) (sym c.in-Some.is)
          ∙ accepted_changes (held s) (TableLine c.args.values) number;
      reply = refl;
    }
