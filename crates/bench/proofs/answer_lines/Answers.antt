use Rattle.std.proofs.Common.{◌≡◌, ◌+◌, ℕ, List, [], ◌∷◌, ◌++◌, length, sym, refl, ap, ◌∙◌, subst, append_assoc, arith, rules}
use Rattle.std.specs.Prelude.{IfOk}
use Rattle.std.specs.Io.Iter.{bytes_remaining}
use Rattle.std.specs.Io.KnownBytes.{Appends, Consumes, IsAtEnd}
use Rattle.std.proofs.lemmas.List.{length_push, append-nil}
use Rattle.lines.specs.Answers.{answer_text}
use Rattle.lines.specs.Streams.{lines_from, lines_of}
use Rattle.lines.proofs.Following.{appends_none, appends_both, all_lines, first_lines}
use Rattle.lines.proofs.Nexts.{line_ended, line_went_on}
use Rattle.session.specs.Sessions.{held}
use Rattle.bench.specs.Answering.{Replied, AnsweredAll}
use Rattle.bench.proofs.Answered.{answered_more, last_line, no_line}
use Rattle.bench.proofs.answer_lines.Goals as goal
use Rattle.bench.proofs.answer_lines.Goals.{then-not-is_empty+in_ok-write_answer-2, else-not-is_empty}

pub loop-byte-init : goal.loop-byte-init
loop-byte-init g c = (
  [],
  [],
  held c.in_ok-session.session,
  [],
  (refl, omega arith),
  c.in_ok-session.ensures.0,
  c.in_ok-session.ensures.1,
  (refl, refl),
  appends_none _,
  c.new-line.ensures,
  λ input e. (input, input, ap (bytes_remaining g.R.Read.remaining) c.into_iter-byte-iterator.ensures.into_iter_gives ∙ c.bytes-byte-items.ensures ∙ e, refl, refl),
)

pub loop-byte-preserved-then-byte-ne10 : goal.loop-byte-preserved-then-byte-ne10
loop-byte-preserved-then-byte-ne10 g c =
    let a = c.loop-byte.invariant in
    let old = bytes_remaining g.R.Read.remaining c.loop-byte.byte-iterator in
    let new = bytes_remaining g.R.Read.remaining c.next.new.self in
    let byte = c.in_ok-byte.byte in
    let read : Consumes old new (byte ∷ []) = subst (λ r. IfOk r (λ b. Consumes old new (b ∷ []))) c.in_ok-byte.was c.in-Some.ensures.steps in (
      a.0,
      a.1,
      a.2,
      a.3 ++ (byte ∷ []),
      a.4,
      a.5,
      a.6,
      a.7,
      a.8,
      c.in_ok-push.ensures.kept refl a.3 a.9,
      λ input e. let k = a.10 input e in
          let n = line_went_on old new byte k.0 a.3 k.1 read c.if-byte-ne10.true k.2 k.4 in
          (k.0, n.0, n.1, k.3, n.2),
    )

pub loop-byte-preserved : goal.loop-byte-preserved
loop-byte-preserved g c =
    let a = c.loop-byte.invariant in
    let old = bytes_remaining g.R.Read.remaining c.loop-byte.byte-iterator in
    let new = bytes_remaining g.R.Read.remaining c.next.new.self in
    let byte = c.in_ok-byte.byte in
    let feed : byte ≡ 10 = search rules in
    let read : Consumes old new (byte ∷ []) = subst (λ r. IfOk r (λ b. Consumes old new (b ∷ []))) c.in_ok-byte.was c.in-Some.ensures.steps in
    let r = c.in_ok-write_answer.ensures a.3 a.9 in
    let now = held c.write_answer.new.session in
    let more : c.in-Some-checked_add.next ≡ c.loop-byte.number + 1 = search rules in
    let by_number = subst (λ m. Replied m a.3 (held c.loop-byte.session) now r.0) (sym a.4.0) r.1 in (
      a.0 ++ (a.3 ∷ []),
      a.1 ++ answer_text r.0,
      a.2,
      [],
      (omega (arith, a.4.0, more, length_push a.0 a.3), omega (arith, c.in-Some-checked_add.ensures.0, more)),
      a.5,
      a.6,
      answered_more 1 a.0 a.3 a.2 (held c.loop-byte.session) now a.1 r.0 a.7 by_number,
      appends_both _ _ _ a.1 (answer_text r.0) a.8 r.2,
      c.clear.ensures,
      λ input e. let k = a.10 input e in
          let n = line_ended old new byte k.0 a.3 k.1 read feed k.2 k.4 in
          (n.0, n.0, n.1, k.3 ∙ ap (λ l. a.0 ++ l) n.2 ∙ sym (append_assoc a.0 (a.3 ∷ []) (lines_of n.0)), refl),
    )

pub returns-in_default : goal.returns-in_default
returns-in_default g c =
    let a = c.loop-byte.invariant in
    let old = bytes_remaining g.R.Read.remaining c.loop-byte.byte-iterator in
    let new = bytes_remaining g.R.Read.remaining c.next.new.self in
    let byte = c.in_ok-byte.byte in
    let feed : byte ≡ 10 = search rules in
    let read : Consumes old new (byte ∷ []) = subst (λ r. IfOk r (λ b. Consumes old new (b ∷ []))) c.in_ok-byte.was c.in-Some.ensures.steps in
    let r = c.in_ok-write_answer.ensures a.3 a.9 in
    let now = held c.write_answer.new.session in
    let full : c.loop-byte.number ≡ 65535 = omega (arith, a.4.1, c.in_default.ensures) in
    let by_number = subst (λ m. Replied m a.3 (held c.loop-byte.session) now r.0) (sym a.4.0) r.1 in (
      a.1 ++ answer_text r.0,
      record {
        lines = a.0 ++ (a.3 ∷ []);
        first = a.2;
        last = now;
        no_plan = a.5;
        no_receiver = a.6;
        every = λ bytes e. let k = a.10 bytes e in
            let n = line_ended old new byte k.0 a.3 k.1 read feed k.2 k.4 in
            first_lines 65535 (lines_of bytes) (a.0 ++ (a.3 ∷ [])) (lines_of n.0)
            (k.3 ∙ ap (λ l. a.0 ++ l) n.2 ∙ sym (append_assoc a.0 (a.3 ∷ []) (lines_of n.0)))
            (omega (arith, a.4.0, full, length_push a.0 a.3));
        answered = answered_more 1 a.0 a.3 a.2 (held c.loop-byte.session) now a.1 r.0 a.7 by_number;
      },
      appends_both _ _ _ a.1 (answer_text r.0) a.8 r.2,
    )

pub returns : goal.returns
returns g c =
    let a = c.loop-byte.invariant in
    let contents = g.W.Write.contents in
    elim c.if-not-is_empty.branch [
      | then-not-is_empty+in_ok-write_answer-2 w ↦ (
          let some : length c.loop-byte.line.kept.items ≡ 0 → ⊥ = search rules in
          let r = w.in_ok-write_answer-2.ensures a.3 a.9 in
          let now = held w.write_answer-then-not-is_empty.new.session in
          let by_number = subst (λ m. Replied m a.3 (held c.loop-byte.session) now r.0) (sym a.4.0) r.1 in
          subst (λ o. (x : List ℕ) × AnsweredAll (g.R.Read.remaining c.args.input) x × Appends (contents c.args.output.now) (contents o) x) (sym w.output-is) (
            a.1 ++ answer_text r.0,
            record {
              lines = a.0 ++ (a.3 ∷ []);
              first = a.2;
              last = now;
              no_plan = a.5;
              no_receiver = a.6;
              every = λ bytes e. let k = a.10 bytes e in
                  let none : k.1 ≡ [] = subst IsAtEnd k.2 c.in-None.ensures.steps in
                  let behind = k.4 ∙ ap (lines_from a.3) none ∙ last_line a.3 c.loop-byte.line.kept.items a.9 some in
                  all_lines 65535 (lines_of bytes) (a.0 ++ (a.3 ∷ [])) [] (k.3 ∙ ap (λ l. a.0 ++ l) behind ∙ sym (append-nil (a.0 ++ (a.3 ∷ [])))) refl
                  (omega (arith, a.4.0, a.4.1, length_push a.0 a.3));
              answered = answered_more 1 a.0 a.3 a.2 (held c.loop-byte.session) now a.1 r.0 a.7 by_number;
            },
            appends_both _ _ _ a.1 (answer_text r.0) a.8 r.2,
          )
          )
      | else-not-is_empty w ↦ (
          let nothing : length c.loop-byte.line.kept.items ≡ 0 = search rules in
          subst (λ o. (x : List ℕ) × AnsweredAll (g.R.Read.remaining c.args.input) x × Appends (contents c.args.output.now) (contents o) x) (sym w.output-is) (
            a.1,
            record {
              lines = a.0;
              first = a.2;
              last = held c.loop-byte.session;
              no_plan = a.5;
              no_receiver = a.6;
              every = λ bytes e. let k = a.10 bytes e in
                  let none : k.1 ≡ [] = subst IsAtEnd k.2 c.in-None.ensures.steps in
                  let behind = k.4 ∙ ap (lines_from a.3) none ∙ no_line a.3 c.loop-byte.line.kept.items a.9 nothing in
                  all_lines 65535 (lines_of bytes) a.0 (lines_of k.0) k.3 behind (omega (arith, a.4.0, a.4.1));
              answered = a.7;
            },
            a.8,
          )
          )
    ]
