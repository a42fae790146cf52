use Rattle.std.proofs.Common.{ℕ, List, ◌++◌}
use Rattle.std.specs.Io.KnownBytes.{Appends}
use Rattle.std.proofs.KnownBytes.{Appends-trans}
use Rattle.speed.specs.Tables.{GrowthOf, Growth, table_head}
use Rattle.speed.proofs.Tabled.{shown_both, on_ok}
use Rattle.speed.proofs.tables.show_growth.Goals as goal

pub returns : goal.returns
returns g c =
    let w = g.W.Write.contents c.args.output.now in
    let headed = g.W.Write.contents c.write.new.self in
    let v = g.W.Write.contents c.show_code_by_length.new.output in
    let u = g.W.Write.contents c.show_code_by_length-2.new.output in
    on_ok c.show_code_by_length-2.result ((text : List ℕ) × GrowthOf 9 text × Appends v u text) ((text : List ℕ) × Growth text × Appends w u (table_head ++ text))
    (λ last.
    let both = shown_both (GrowthOf 7) (GrowthOf 9) headed v u c.in_ok-show_code_by_length.ensures last in
    (both.0, both.1, Appends-trans w headed u table_head both.0 c.in_ok-write.ensures.bytes both.2)) c.show_code_by_length-2.ensures
