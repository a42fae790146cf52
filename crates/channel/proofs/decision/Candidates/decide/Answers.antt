use Rattle.std.proofs.Common.{ap, ◌∙◌}
use Rattle.std.specs.Float.Ieee.{binary64, sub}
use Rattle.plan.specs.Plans.{plan_scheme}
use Rattle.channel.specs.Plane.{weight_for}
use Rattle.channel.proofs.Phases.{sendable_below}
use Rattle.channel.proofs.decision.Candidates.decide.Goals as goal

pub returns : goal.returns
returns c =
    let sendable = c.nearest-best.ensures.sendable in
    let near = c.nearest-best.ensures.nearest in
    record {
      hearable = record {
        sendable = sendable;
        phase = sendable_below (plan_scheme c.args.self.plan.now).bits c.args.self.value _ c.args.self.phases sendable;
        weight_low = c.weight_of.ensures.low;
        weight_high = c.weight_of.ensures.high;
      };
      decided = λ i. record { index = (near i).index; weight = (c.weight_of.ensures.value ∙ ap (λ b. weight_for (sub binary64 b.next b.near)) near) i };
    }
