use Rattle.std.proofs.Common.{◌≡◌, ◌<◌, false, [], ◌∷◌, ◌++◌, length, sym, ◌∙◌, subst, arith, rules}
use Rattle.std.specs.Io.KnownBytes.{Appends}
use Rattle.std.specs.List.{flat_map}
use Rattle.std.proofs.lemmas.Result.{err_from_is_err_and}
use Rattle.std.proofs.ByRecursion.{All-push}
use Rattle.air_text.specs.Lines.{air_text}
use Rattle.bits_text.specs.Texts.{block_line}
use Rattle.code.specs.Numbers.{bits_of}
use Rattle.sender.specs.Answers.{making_answer, send_answer}
use Rattle.sender.specs.Transmission.{symbols, transmission}
use Rattle.laboratory.specs.Sending.{count_on}
use Rattle.laboratory.specs.TextSending.{Holding}
use Rattle.laboratory.proofs.Sent.{written_more}
use Rattle.laboratory.proofs.TextSent.{said_whole, block_sent, not_sent}
use Rattle.laboratory.proofs.text.TextSending.send_whole.Goals as goal
use Rattle.laboratory.proofs.text.TextSending.send_whole.Goals.{then-len-self+in_ok-send, else-len-self}

pub returns-in_err-send : goal.returns-in_err-send
returns-in_err-send g c = λ s m text bs w d h near.
    let block = c.args.self.now.block.items in
    let long : length block ≡ s.block = sym c.args.self.now.block.ok.0 ∙ sym c.len.ensures ∙ c.if-len-self.true ∙ h.whole in
    let zero = (λ k. send_answer (h.scheme k) (h.meant k) (c.as_slice.ensures.value k) (symbols (h.scheme k))) ∙ block_sent s m (flat_map (λ b. b) bs) block h.fit long h.said.binary in
    let p = err_from_is_err_and c.from_residual.result c.from_residual.ensures.1 in
    rw (p.1, p.2) (not_sent _ (making_answer s m false) c.in_err-send.field-0.0 zero c.in_err-send.ensures.refused)

pub returns : goal.returns
returns g c = λ s m text bs w d h near.
    let block = c.args.self.now.block.items in
    let number = c.args.self.now.sending.blocks in
    let wc = g.W.Write.contents in
    let cc' = g.C.Write.contents in
    elim c.if-len-self.branch [
      | then-len-self+in_ok-send v ↦
          (let empty : v.clear.new.self.items ≡ [] = search rules in
          let long : length block ≡ s.block = sym c.args.self.now.block.ok.0 ∙ sym c.len.ensures ∙ v.if-len-self.true ∙ h.whole in
          let air = subst (Appends (wc c.args.output.now) (wc v.send.new.output))
          (λ k. air_text (count_on number) (transmission (h.scheme k) (h.meant k) (bits_of (v.as_slice.ensures.value k)))) v.in_ok-send.ensures.air in
          let line = subst (λ b. Appends (cc' c.args.copy.now) (cc' v.send.new.copy) (block_line b)) v.as_slice.ensures.value v.in_ok-send.ensures.bits in
          let now : Holding g.S.Scrambler.meaning s m
          (record { sending = v.send.new.self; reader = c.args.self.now.reader; block = v.clear.new.self; length = c.args.self.now.length })
          text (bs ++ block ∷ []) w (wc v.send.new.output) d (cc' v.send.new.copy) = record {
            place = h.place;
            said = said_whole text bs block v.clear.new.self.items h.said empty;
            each = All-push (λ b. length b ≡ s.block) bs block h.each long;
            whole = h.whole;
            line = h.line;
            some = h.some;
            fit = h.fit;
            scheme = v.send.ensures.scheme ∙ h.scheme;
            meant = v.send.ensures.meaning ∙ h.meant;
            written = written_more s m bs block number v.send.new.self.blocks w (wc c.args.output.now) (wc v.send.new.output) d (cc' c.args.copy.now) (cc' v.send.new.copy)
                h.written v.in_ok-send.ensures.number air line;
          } in
          let short : length v.clear.new.self.items < s.block = subst (λ l. length l < s.block) (sym empty) h.some in
          (bs ++ block ∷ [], rw (v.self-is, v.output-is, v.copy-is) now, rw v.self-is short))
      | else-len-self v ↦
          (let apart : (length block ≡ s.block) → ⊥ = λ e. v.if-len-self.false (c.len.ensures ∙ c.args.self.now.block.ok.0 ∙ e ∙ sym h.whole) in
          let short : length block < s.block = omega (arith, near, apart) in
          (bs, rw (v.self-is, v.output-is, v.copy-is) h, rw v.self-is short))
    ]
