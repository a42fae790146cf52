use Rattle.std.proofs.Common.{◌≡◌, ◌-◌, ◌*◌}
use Rattle.code.specs.Blocks.{block_scheme, block_bits}
use Rattle.code.specs.Coding.{around, mother}
use Rattle.code.specs.Numbers.{num}
use Rattle.code.proofs.Filled.{Filled}
use Rattle.code.proofs.block.Block.write_pairs.Given as goal

-- the state is that of time t, and the pairs before it are written
abbrev pub invariant-loop-t : goal.invariant-loop-t
invariant-loop-t l =
    let s = block_scheme l.self in
    let u = block_bits l.self in
    (l.state ≡ num (around s u) (s.constraint - 1) l.t) × Filled (mother s u) (2 * l.t) l.initial.word l.word
