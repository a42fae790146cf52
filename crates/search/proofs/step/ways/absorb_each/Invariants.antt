use Rattle.std.proofs.Common.{◌≡◌, ℕ, ◌<◌, false, get_or, drop}
use Rattle.score.specs.Blocks.{absorbed}
use Rattle.search.proofs.step.ways.absorb_each.Given as goal

-- the values that are left give the whole
abbrev pub invariant-loop-value : goal.invariant-loop-value
invariant-loop-value g l =
    let k = g.K.Kind.scale l.kind in
    (i : ℕ) → i < 8 → absorbed k (drop l.value-index l.values) (get_or l.bits i false) (get_or l.scores i k.start)
    ≡ absorbed k l.values (get_or l.bits i false) (get_or l.initial.scores i k.start)
