use Rattle.std.proofs.Common.{ap, ◌∙◌}
use Rattle.lines.specs.Plans.{size_fits}
use Rattle.plan.specs.Parts.{scheme}
use Rattle.session.proofs.Tabled.{accepted_small}
use Rattle.session.proofs.session.Session.take_plan.Goals as goal

pub invariant_of-self : goal.invariant_of-self
invariant_of-self c =
    let s = c.args.self.now in
    let e = c.in_ok-plan.ensures in
    record {
      small_plan = ap size_fits e.made ∙ accepted_small (scheme c.args.parts) e.answer;
      small_receiver = tt;
      values = s.values;
      columns = s.columns;
      marks_of_all = s.marks_of_all;
    }
