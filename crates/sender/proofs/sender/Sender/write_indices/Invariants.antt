use Rattle.std.proofs.Common.{◌*◌}
use Rattle.code.proofs.Filled.{Filled}
use Rattle.sender.specs.Senders.{sender_index, Kept}
use Rattle.sender.proofs.sender.Sender.write_indices.Given as goal

-- the sender is kept, and the indices of the frames before are written
abbrev pub invariant-loop-frame : goal.invariant-loop-frame
invariant-loop-frame g l =
    let means = g.S.Scrambler.meaning in
    Kept means l.initial.self l.self
    × Filled (sender_index means l.initial.self) (l.frame * l.length) l.initial.out l.out
