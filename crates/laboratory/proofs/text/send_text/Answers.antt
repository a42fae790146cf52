use Rattle.std.proofs.Common.{◌≡◌, ◌<◌, length, [], ◌∷◌, ◌++◌, sym, refl, ap, ◌∙◌, subst, append_assoc, append-nil}
use Rattle.std.specs.Prelude.{IfOk}
use Rattle.std.specs.Io.Iter.{bytes_remaining}
use Rattle.std.specs.Io.KnownBytes.{Consumes, IsAtEnd}
use Rattle.std.specs.List.{flat_map}
use Rattle.std.proofs.lemmas.Result.{err_from_is_err_and}
use Rattle.bits_text.specs.Texts.{Says}
use Rattle.plan.specs.Plans.{plan_scheme}
use Rattle.laboratory.specs.TextSending.{LeftOver, TextRefused}
use Rattle.laboratory.specs.declared.trouble.Trouble.TheVariants.{Unfinished}
use Rattle.laboratory.proofs.Lines.{known_next}
use Rattle.laboratory.proofs.TextSent.{said_all, match_map}
use Rattle.laboratory.proofs.text.send_text.Goals as goal

pub loop-byte-init : goal.loop-byte-init
loop-byte-init g c = λ xs e. (
  [],
  xs,
  [],
  ap (bytes_remaining g.R.Read.remaining) c.into_iter-byte-iterator.ensures.into_iter_gives ∙ c.bytes-byte-items.ensures ∙ e,
  refl,
  c.in_ok-sending.ensures.made (g.W.Write.contents c.args.output.now) (g.C.Write.contents c.args.copy.now),
  subst (λ l. length l < (plan_scheme c.args.plan.now).block) (sym c.in_ok-sending.ensures.none)
      (c.in_ok-sending.ensures.made (g.W.Write.contents c.args.output.now) (g.C.Write.contents c.args.copy.now)).some,
)

pub loop-byte-preserved : goal.loop-byte-preserved
loop-byte-preserved g c = λ xs e.
    let i = c.loop-byte.invariant xs e in
    let old = bytes_remaining g.R.Read.remaining c.loop-byte.byte-iterator in
    let new = bytes_remaining g.R.Read.remaining c.next.new.self in
    let byte = c.in_ok-byte.field-0 in
    let read : Consumes old new (byte ∷ []) = subst (λ r. IfOk r (λ b. Consumes old new (b ∷ []))) c.in_ok-byte.was c.in-Some.ensures.steps in
    let next = known_next old new byte i.1 read i.3 in
    let took = c.in_ok-take.ensures (plan_scheme c.args.plan.now) (g.S.Scrambler.meaning c.args.scrambler) i.0 i.2
    (g.W.Write.contents c.args.output.now) (g.C.Write.contents c.args.copy.now) i.5 i.6 in
    (i.0 ++ byte ∷ [], next.0, took.0, next.1, i.4 ∙ ap (λ l. i.0 ++ l) next.2 ∙ sym (append_assoc i.0 (byte ∷ []) next.0), took.1, took.2)

pub returns-in_err-take : goal.returns-in_err-take
returns-in_err-take g c = λ xs e.
    let i = c.loop-byte.invariant xs e in
    let s = plan_scheme c.args.plan.now in
    let m = g.S.Scrambler.meaning c.args.scrambler in
    let old = bytes_remaining g.R.Read.remaining c.loop-byte.byte-iterator in
    let new = bytes_remaining g.R.Read.remaining c.next.new.self in
    let byte = c.in_ok-byte.field-0 in
    let read : Consumes old new (byte ∷ []) = subst (λ r. IfOk r (λ b. Consumes old new (b ∷ []))) c.in_ok-byte.was c.in-Some.ensures.steps in
    let next = known_next old new byte i.1 read i.3 in
    let cut : i.0 ++ byte ∷ next.0 ≡ xs = sym (i.4 ∙ ap (λ l. i.0 ++ l) next.2) in
    let refused = c.in_err-take.ensures s m i.0 i.2 (g.W.Write.contents c.args.output.now) (g.C.Write.contents c.args.copy.now) i.5 i.6 next.0 in
    let p = err_from_is_err_and c.from_residual-in_err-take.result c.from_residual-in_err-take.ensures.1 in
    rw (p.1, p.2) (subst (λ t. TextRefused s m t c.in_err-take.field-0.0) cut refused)

pub returns : goal.returns
returns g c = λ xs e.
    let i = c.loop-byte.invariant xs e in
    let over : i.1 ≡ [] = subst IsAtEnd i.3 c.in-None.ensures.steps in
    let whole = i.4 ∙ ap (λ l. i.0 ++ l) over ∙ append-nil i.0 in
    let s = plan_scheme c.args.plan.now in
    let m = g.S.Scrambler.meaning c.args.scrambler in
    let rest = c.loop-byte.sending.block.items in
    match_map c.finish.result
    (λ empty. (
      i.2,
      record { long = i.5.each; said = said_all i.0 xs i.2 c.loop-byte.sending.block.items i.5.said empty whole },
      i.5.written.air,
      i.5.written.bits,
    ))
    (λ e q.
    let left : LeftOver s.block xs (length rest) = record {
      bs = i.2;
      rest = rest;
      long = i.5.each;
      said = subst (λ t. Says t (flat_map (λ b. b) i.2 ++ rest)) (sym whole) i.5.said;
      left = refl;
      some = q.1;
      short = i.6;
    } in
    let told : TextRefused s m xs (Unfinished (length rest) c.loop-byte.sending.length) = (i.5.whole, left) in
    subst (TextRefused s m xs) (sym q.0) told)
    c.finish.ensures
