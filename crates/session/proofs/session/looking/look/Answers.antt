use Rattle.std.proofs.Common.{◌∙◌, arith}
use Rattle.plan.specs.Plans.{plan_scheme}
use Rattle.receiver.specs.Receivers.{view_of}
use Rattle.scrambler.specs.Meanings.{table_meaning}
use Rattle.session.proofs.Looked.{small_enough, shows_from}
use Rattle.session.proofs.session.looking.look.Goals as goal

pub returns : goal.returns
returns c =
    let receiver = c.args.receiver.now in
    record {
      answer =
          c.look.ensures.answer
          ∙ small_enough (plan_scheme receiver.plan) _ receiver.plan.accepted c.requires.small c.requires.values c.requires.block (omega (arith, c.split_at_mut-first.ensures.front_len)) (omega (arith, c.split_at_mut-first.ensures.back_len)) c.requires.marks;
      shows = shows_from (view_of table_meaning receiver) c.args.memory.now c.args.block.now c.look.new.block c.requires.block c.look.result c.look.ensures.found c.look.ensures.block;
    }
