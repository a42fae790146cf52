use Rattle.std.proofs.Common.{◌+◌}
use Rattle.code.proofs.Filled.{Filled}
use Rattle.sender.specs.Senders.{sender_index, Kept}
use Rattle.sender.proofs.sender.Sender.write_frame.Given as goal

-- the sender is kept, and the indices of the places before are written
abbrev pub invariant-loop-place : goal.invariant-loop-place
invariant-loop-place g l =
    let means = g.S.Scrambler.meaning in
    Kept means l.initial.self l.self
    × Filled (λ place. sender_index means l.initial.self (l.first + place)) l.place l.initial.out l.out
