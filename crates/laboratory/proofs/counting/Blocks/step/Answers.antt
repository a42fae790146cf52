use Rattle.std.proofs.Common.{◌≡◌, ◌+◌, [], ◌∷◌, ◌++◌, subst, sym, refl, ap, ◌∙◌, append_assoc, cond, arith}
use Rattle.std.specs.Prelude.{IfOk, Some, if◌then◌else◌}
use Rattle.std.specs.Io.Iter.{bytes_left, bytes_remaining}
use Rattle.std.specs.Io.KnownBytes.{Consumes, IsAtEnd}
use Rattle.std.proofs.lemmas.Bool.{true≢false}
use Rattle.laboratory.proofs.Lines.{known_next, step_taken}
use Rattle.laboratory.proofs.Located.{step_read}
use Rattle.laboratory.proofs.counting.Blocks.step.Goals as goal

pub returns-in_ok-byte-in-Some-clause-known : goal.returns-in_ok-byte-in-Some-clause-known
returns-in_ok-byte-in-Some-clause-known g c = λ line xs s.
    let old = bytes_remaining g.R.Read.remaining c.args.self.now.bytes in
    let new = bytes_remaining g.R.Read.remaining c.next.new.self in
    let byte = c.in_ok-byte-in-Some.field-0 in
    let before : old ≡ Some xs = sym (ap (λ v. if v then Some [] else old) c.requires) ∙ s.rest in
    let read : Consumes old new (byte ∷ []) = subst (λ r. IfOk r (λ b. Consumes old new (b ∷ []))) c.in_ok-byte-in-Some.was c.in-Some.ensures.steps in
    let next = known_next old new byte xs read before in
    step_taken g.R.Read.remaining (record { bytes = c.next.new.self; ended = c.args.self.now.ended; line = c.take.new.self }) line xs byte next.0 c.take.result
    (ap (λ v. if v then Some [] else new) c.requires ∙ next.1) next.2 (c.take.ensures.known line s.holds)

pub returns-in-None-clause-fewer : goal.returns-in-None-clause-fewer
returns-in-None-clause-fewer g c =
    let more : cond c.args.self.now.ended 0 (1 + bytes_left c.args.self.now.bytes) ≡ 1 + bytes_left c.args.self.now.bytes = ap (λ v. cond v 0 (1 + bytes_left c.args.self.now.bytes)) c.requires in
    omega (arith, more)

pub returns-in_ok-byte-in-Some-clause-read : goal.returns-in_ok-byte-in-Some-clause-read
returns-in_ok-byte-in-Some-clause-read g c = λ whole h.
    let old = bytes_remaining g.R.Read.remaining c.args.self.now.bytes in
    let new = bytes_remaining g.R.Read.remaining c.next.new.self in
    let byte = c.in_ok-byte-in-Some.field-0 in
    let before : old ≡ Some h.rest = sym (ap (λ v. if v then Some [] else old) c.requires) ∙ h.left in
    let read : Consumes old new (byte ∷ []) = subst (λ r. IfOk r (λ b. Consumes old new (b ∷ []))) c.in_ok-byte-in-Some.was c.in-Some.ensures.steps in
    let next = known_next old new byte h.rest read before in
    let behind = h.behind c.requires in
    step_read g.R.Read.remaining (record { bytes = c.next.new.self; ended = c.args.self.now.ended; line = c.take.new.self }) c.args.self.now.line.name.now
    h.text next.0 whole byte c.take.result (ap (λ v. if v then Some [] else new) c.requires ∙ next.1)
    (h.cut ∙ ap (λ l. h.text ++ l) next.2 ∙ sym (append_assoc h.text (byte ∷ []) next.0)) (c.take.ensures.read h.text behind) (c.take.ensures.clear h.text behind)

pub returns-in-None-clause-read : goal.returns-in-None-clause-read
returns-in-None-clause-read g c = λ whole h.
    let old = bytes_remaining g.R.Read.remaining c.args.self.now.bytes in
    let before : old ≡ Some h.rest = sym (ap (λ v. if v then Some [] else old) c.requires) ∙ h.left in
    let over : h.rest ≡ [] = subst IsAtEnd before c.in-None.ensures.steps in (
      record { text = h.text; rest = []; left = refl; cut = h.cut ∙ ap (λ l. h.text ++ l) over; behind = λ e. absurd (true≢false e) },
      λ e. absurd (true≢false (sym e)),
    )
