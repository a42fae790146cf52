use Rattle.std.proofs.Common.{◌≡◌, ◌≢◌, ◌≤◌, length, take, vec_items, vec_len, vec_capacity}
use Rattle.receiver.specs.Receivers.{view_of}
use Rattle.search.specs.Looking.{search_answer}
use Rattle.replay.specs.Given.{given}
use Rattle.replay.proofs.Carried.{Carried}
use Rattle.replay.proofs.carrying.run.Given as given_here

abbrev pub invariant-loop-call : given_here.invariant-loop-call
invariant-loop-call g l =
    let v = view_of g.S.Scrambler.meaning l.initial.receiver in
    let whole = given l.initial.memory l.initial.block l.initial.scores l.initial.marks in
    (view_of g.S.Scrambler.meaning l.receiver ≡ v)
    × Carried v whole (take l.call-index l.calls) l.initial.memory l.memory l.initial.block l.block (vec_items l.answers)
    × (vec_len l.answers ≡ l.call-index)
    × (length l.calls ≤ vec_capacity l.answers)
    × (search_answer v.scheme whole ≢ 0 → (l.block ≡ l.initial.block) × (l.marks ≡ l.initial.marks))
