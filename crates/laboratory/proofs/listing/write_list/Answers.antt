use Rattle.std.proofs.Common.{◌≡◌, ◌<◌, ◌≤◌, [], ◌∷◌, ◌++◌, length, take, get_or, ap, ◌∙◌, subst, take_all}
use Rattle.std.specs.Prelude.{codes}
use Rattle.std.specs.Io.KnownBytes.{Appends}
use Rattle.std.specs.List.{flat_map}
use Rattle.laboratory.proofs.Listed.{entry_text, entries_more, entries_line}
use Rattle.laboratory.proofs.Sent.{appends_both}
use Rattle.laboratory.proofs.TextSent.{on_ok_map}
use Rattle.laboratory.proofs.listing.write_list.Goals as goal

pub loop-entry-init : goal.loop-entry-init
loop-entry-init g c = c.in_ok-write.ensures.bytes

pub loop-entry-preserved : goal.loop-entry-preserved
loop-entry-preserved g c =
    let es = c.args.plan.now.parts.send_list.items in
    let listed : c.as_slice-entry-items.result.now ≡ es = c.as_slice-entry-items.ensures.value ∙ ap (λ p. p.send_list.items) c.parts.ensures in
    let i = c.loop-entry.entry-index in
    let old = g.W.Write.contents c.args.output.now in
    let before = g.W.Write.contents c.loop-entry.output in
    let new = g.W.Write.contents c.write-in-loop-entry.new.self in
    let inside : i < length es = subst (λ l. i < length l) listed c.loop-entry-test.true in
    let last : Appends before new (entry_text (get_or es i 0)) = subst (λ l. Appends before new (entry_text (get_or l i 0))) listed c.in_ok-write-2.ensures.bytes in
    subst (Appends old new) (entries_more (codes "send_list") es i inside)
    (appends_both old before new (codes "send_list" ++ flat_map entry_text (take i es)) (entry_text (get_or es i 0)) c.loop-entry.invariant last)

pub returns : goal.returns
returns g c =
    let es = c.args.plan.now.parts.send_list.items in
    let listed : c.as_slice-entry-items.result.now ≡ es = c.as_slice-entry-items.ensures.value ∙ ap (λ p. p.send_list.items) c.parts.ensures in
    let i = c.loop-entry.entry-index in
    let old = g.W.Write.contents c.args.output.now in
    let before = g.W.Write.contents c.loop-entry.output in
    let new = g.W.Write.contents c.write-2.new.self in
    let all : length es ≤ i = subst (λ l. length l ≤ i) listed c.loop-entry-test.false in
    on_ok_map c.write-2.result
    (λ last.
    subst (Appends old new) (ap (λ l. (codes "send_list" ++ flat_map entry_text l) ++ 10 ∷ []) (take_all i es all) ∙ entries_line (codes "send_list") es)
    (appends_both old before new (codes "send_list" ++ flat_map entry_text (take i es)) (10 ∷ []) c.loop-entry.invariant last))
    c.write-2.ensures.bytes
