use Rattle.std.proofs.Common.{ℕ, List, ◌++◌}
use Rattle.std.specs.Io.KnownBytes.{Appends}
use Rattle.std.proofs.KnownBytes.{Appends-trans}
use Rattle.speed.specs.Tables.{KindsOf, Kinds, table_head}
use Rattle.speed.proofs.Tabled.{shown_both, on_ok}
use Rattle.speed.proofs.tables.show_kinds.Goals as goal

pub returns : goal.returns
returns g c =
    let w = g.W.Write.contents c.args.output.now in
    let headed = g.W.Write.contents c.write.new.self in
    let v = g.W.Write.contents c.show_code.new.output in
    let u = g.W.Write.contents c.show_code-2.new.output in
    on_ok c.show_code-2.result ((text : List ℕ) × KindsOf 9 text × Appends v u text) ((text : List ℕ) × Kinds text × Appends w u (table_head ++ text))
    (λ last.
    let both = shown_both (KindsOf 7) (KindsOf 9) headed v u c.in_ok-show_code.ensures last in
    (both.0, both.1, Appends-trans w headed u table_head both.0 c.in_ok-write.ensures.bytes both.2)) c.show_code-2.ensures
