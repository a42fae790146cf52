use Rattle.std.proofs.Common.{◌≡◌}
use Rattle.code.specs.Blocks.{block_scheme, block_bits}
use Rattle.score.specs.Blocks.{value_at, score_after}
use Rattle.score.proofs.block.score_steps.Given as goal

abbrev pub invariant-loop-t : goal.invariant-loop-t
invariant-loop-t g l = l.score ≡ score_after (g.K.Kind.scale l.kind) (block_scheme l.block) (value_at l.memory) (block_bits l.block) l.t
