use Rattle.std.proofs.Common.{rules, ◌≡◌, ◌++◌, ap, ◌∙◌, subst, take}
use Rattle.std.proofs.KnownBytes.{Appends-nil, Appends-trans}
use Rattle.std.specs.Io.KnownBytes.{Appends}
use Rattle.std.specs.List.{flat_map}
use Rattle.rows_text.specs.Lists.{list_line, both_lines}
use Rattle.rows_text.proofs.Listed.{of_place, places, place_more, lists_all}
use Rattle.rows_text.proofs.lists.write_lists.Goals as goal

pub loop-bandwidth-init : goal.loop-bandwidth-init
loop-bandwidth-init g c = Appends-nil (g.W.Write.contents c.args.output.now)

pub loop-bandwidth-preserved : goal.loop-bandwidth-preserved
loop-bandwidth-preserved g c =
    let n = c.loop-bandwidth.bandwidth-index in
    let start = g.W.Write.contents c.args.output.now in
    let old = g.W.Write.contents c.loop-bandwidth.output in
    let mid = g.W.Write.contents c.write_list.new.output in
    let new = g.W.Write.contents c.write_list-in-loop-bandwidth.new.output in
    let seven = c.in_ok-write_list.ensures in
    let nine = c.in_ok-write_list-2.ensures in
    let before = flat_map (of_place both_lines) (take n places) in
    subst (Appends start new) (place_more n _ seven.0 nine.0 c.loop-bandwidth-test.true seven.1 nine.1)
    (Appends-trans start mid new (before ++ list_line seven.0.rate 7) (list_line nine.0.rate 9)
    (Appends-trans start old mid before (list_line seven.0.rate 7) c.loop-bandwidth.invariant seven.2) nine.2)

pub returns : goal.returns
returns g c =
    let done : c.loop-bandwidth.bandwidth-index ≡ 14 = search rules in
    subst (Appends (g.W.Write.contents c.args.output.now) (g.W.Write.contents c.loop-bandwidth.output))
    (ap (λ n. flat_map (of_place both_lines) (take n places)) done ∙ lists_all) c.loop-bandwidth.invariant
