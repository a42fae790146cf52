use Rattle.std.proofs.Common.{◌≡◌, ◌*◌, length}
use Rattle.channel.specs.Drawing.{state_after}
use Rattle.plan.specs.Plans.{plan_scheme}
use Rattle.sender.specs.Senders.{sender_scheme}
use Rattle.laboratory.specs.Sending.{Written, drawn_blocks}
use Rattle.laboratory.proofs.sending.send_drawn.Given as goal

-- the blocks drawn so far are written
abbrev pub invariant-loop-sent : goal.invariant-loop-sent
invariant-loop-sent g l = record {
  scheme : sender_scheme l.sending.sender ≡ plan_scheme l.fn.plan;
  meaning : g.S.Scrambler.meaning l.sending.sender.scrambler ≡ g.S.Scrambler.meaning l.fn.scrambler;
  long : length l.block.items ≡ l.fn.plan.parts.block_length;
  state : l.generator.state ≡ state_after (l._sent * l.fn.plan.parts.block_length) l.fn.seed;
  written : Written (plan_scheme l.fn.plan) (g.S.Scrambler.meaning l.fn.scrambler) (drawn_blocks l.fn.plan.parts.block_length l.fn.seed l._sent) l.sending.blocks
      (g.W.Write.contents l.fn.output) (g.W.Write.contents l.output) (g.C.Write.contents l.fn.copy) (g.C.Write.contents l.copy);
}
