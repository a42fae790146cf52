use Rattle.std.proofs.Common.{[], ◌∷◌, ◌++◌, refl, ap, ◌∙◌, subst}
use Rattle.std.specs.Prelude.{IfOk}
use Rattle.std.specs.Io.Iter.{bytes_remaining}
use Rattle.std.specs.Io.KnownBytes.{Consumes, IsAtEnd}
use Rattle.lines.specs.Streams.{lines_from}
use Rattle.lines.proofs.Nexts.{line_ended, line_went_on}
use Rattle.lines.proofs.stream.fill.Goals as goal

pub loop-byte-init : goal.loop-byte-init
loop-byte-init g c = ([], c.requires, λ text e. (text, e, refl))

pub returns-then-byte-eq10 : goal.returns-then-byte-eq10
returns-then-byte-eq10 g c =
    let i = c.loop-byte.invariant in
    let old = bytes_remaining g.R.Read.remaining c.loop-byte.input in
    let new = bytes_remaining g.R.Read.remaining c.next.new.self in
    let byte = c.in_ok-byte.byte in
    let read : Consumes old new (byte ∷ []) = subst (λ r. IfOk r (λ b. Consumes old new (b ∷ []))) c.in_ok-byte.was c.in-Some.ensures.steps in
    (i.0, i.1, λ text e. let k = i.2 text e in line_ended old new byte text i.0 k.0 read c.if-byte-eq10.true k.1 k.2)

pub loop-byte-preserved : goal.loop-byte-preserved
loop-byte-preserved g c =
    let i = c.loop-byte.invariant in
    let old = bytes_remaining g.R.Read.remaining c.loop-byte.input in
    let new = bytes_remaining g.R.Read.remaining c.next.new.self in
    let byte = c.in_ok-byte.byte in
    let read : Consumes old new (byte ∷ []) = subst (λ r. IfOk r (λ b. Consumes old new (b ∷ []))) c.in_ok-byte.was c.in-Some.ensures.steps in (
      i.0 ++ (byte ∷ []),
      c.in_ok-push.ensures.kept refl i.0 i.1,
      λ text e. let k = i.2 text e in line_went_on old new byte text i.0 k.0 read c.if-byte-eq10.false k.1 k.2,
    )

pub returns : goal.returns
returns g c =
    let i = c.loop-byte.invariant in
    (i.0, i.1, λ text e. let k = i.2 text e in k.2 ∙ ap (lines_from i.0) (subst IsAtEnd k.1 c.in_default.ensures.steps))
