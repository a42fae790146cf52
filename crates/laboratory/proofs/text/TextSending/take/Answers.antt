use Rattle.std.proofs.Common.{◌≡◌, ◌+◌, ◌≤◌, [], ◌∷◌, ◌++◌, length, Ok, sym, ap, ◌∙◌, subst, length-append, arith}
use Rattle.std.specs.Prelude.{Some, None}
use Rattle.std.specs.List.{flat_map}
use Rattle.bits_text.specs.Readings.{line_after, Taken}
use Rattle.laboratory.specs.TextSending.{Holding}
use Rattle.laboratory.proofs.TextSent.{said_bit, match_map, unsent_told, line_more}
use Rattle.laboratory.proofs.text.TextSending.take.Goals as goal

pub returns-in_ok-push-in-Ok-Some : goal.returns-in_ok-push-in-Ok-Some
returns-in_ok-push-in-Ok-Some g c = λ s m text bs w d h near.
    let old = c.args.self.now in
    let byte = c.args.byte in
    let bits = flat_map (λ b. b) bs ++ old.block.items in
    let said : Taken old.reader text bits byte c.take.new.self (Ok (Some c.in-Ok-Some.bit)) =
    subst (λ o. Taken old.reader text bits byte c.take.new.self (Ok o)) c.in-Ok-Some.field-0-is (c.in-Ok-Some.ensures.said text bits h.place h.said) in
    let items = c.in_ok-push-in-Ok-Some.ensures.items in
    let held : Holding g.S.Scrambler.meaning s m (record { sending = old.sending; reader = c.take.new.self; block = c.push.new.self; length = old.length })
    (text ++ byte ∷ []) bs w (g.W.Write.contents c.args.output.now) d (g.C.Write.contents c.args.copy.now) = record {
      place = said.0;
      line = c.in-Ok-Some.ensures.line ∙ ap (λ n. line_after n byte) h.line ∙ sym (line_more 1 text byte);
      said = said_bit (text ++ byte ∷ []) bs old.block.items c.push.new.self.items c.in-Ok-Some.bit said.1 items;
      each = h.each;
      whole = h.whole;
      some = h.some;
      fit = h.fit;
      scheme = h.scheme;
      meant = h.meant;
      written = h.written;
    } in
    let long : length c.push.new.self.items ≡ length old.block.items + 1 = ap length items ∙ length-append old.block.items (c.in-Ok-Some.bit ∷ []) in
    let room : length c.push.new.self.items ≤ s.block = omega (arith, near, long) in
    match_map c.send_whole.result (λ x. x) (λ e u after. unsent_told s m (text ++ byte ∷ after) e u) (c.send_whole.ensures s m (text ++ byte ∷ []) bs w d held room)

pub returns-in-Ok-None : goal.returns-in-Ok-None
returns-in-Ok-None g c = λ s m text bs w d h near.
    let old = c.args.self.now in
    let byte = c.args.byte in
    let bits = flat_map (λ b. b) bs ++ old.block.items in
    let said : Taken old.reader text bits byte c.take.new.self (Ok None) =
    subst (λ o. Taken old.reader text bits byte c.take.new.self (Ok o)) c.in-Ok-None.field-0-is (c.in-Ok-None.ensures.said text bits h.place h.said) in
    let held : Holding g.S.Scrambler.meaning s m (record { sending = old.sending; reader = c.take.new.self; block = old.block; length = old.length })
    (text ++ byte ∷ []) bs w (g.W.Write.contents c.args.output.now) d (g.C.Write.contents c.args.copy.now) = record {
      place = said.0;
      line = c.in-Ok-None.ensures.line ∙ ap (λ n. line_after n byte) h.line ∙ sym (line_more 1 text byte);
      said = said.1;
      each = h.each;
      whole = h.whole;
      some = h.some;
      fit = h.fit;
      scheme = h.scheme;
      meant = h.meant;
      written = h.written;
    } in
    (bs, held, near)
