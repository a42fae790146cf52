use Rattle.std.proofs.Common.{◌≡◌, drop}
use Rattle.score.specs.Blocks.{absorbed}
use Rattle.score.proofs.gathered.gathering.absorb.Given as goal

-- the values that are left give the whole
abbrev pub invariant-loop-value : goal.invariant-loop-value
invariant-loop-value g l = absorbed (g.K.Kind.scale l.kind) (drop l.value-index l.values) l.bit l.score ≡ absorbed (g.K.Kind.scale l.kind) l.values l.bit l.initial.score
