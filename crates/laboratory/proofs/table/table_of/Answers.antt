use Rattle.std.proofs.Common.{◌≡◌, ◌+◌, ◌-◌, ◌^◌, ◌<◌, min, true, [], ◌∷◌, ◌++◌, Some, None, map, length, sym, refl, ap, ◌∙◌, subst, append_assoc, append-nil, length-append, inr}
use Rattle.std.specs.Prelude.{◌==◌, IfOk, IfSome, string_bytes, if◌then◌else◌}
use Rattle.std.specs.Io.BufRead.{drop_through, first_line, DropsThrough}
use Rattle.std.specs.Io.Buffered.{reader_remaining}
use Rattle.std.specs.Io.Iter.{lines_known_bytes}
use Rattle.std.specs.Io.KnownBytes.{IsAtEnd, prepend_known}
use Rattle.std.specs.Str.Lines.{lines}
use Rattle.std.proofs.lemmas.Result.{err_from_is_err_and}
use Rattle.plan.specs.Plans.{plan_scheme}
use Rattle.scrambler.specs.Questions.{making_answer, table_fits}
use Rattle.sender.specs.Scrambling.{needed_width}
use Rattle.laboratory.specs.TableText.{line_words, all_words, AreValues, WordsRefused}
use Rattle.laboratory.proofs.Worded.{are_more, known_line, line_counted, line_refused, values_refused, values_taken, words_of_more}
use Rattle.laboratory.proofs.table.table_of.Goals as goal

pub loop-line-init : goal.loop-line-init
loop-line-init g c = λ xs e.
    let made = c.in_ok-new.ensures in
    let known : reader_remaining g.R.Read.remaining c.in_ok-new.field-0 ≡ Some xs =
    (λ k. if made.capacity k == 0 then None else prepend_known (made.empty k) (g.R.Read.remaining (made.inner k))) ∙ ap (prepend_known []) e in (
      [],
      xs,
      ap (lines_known_bytes (reader_remaining g.R.Read.remaining)) c.into_iter-line-iterator.ensures.into_iter_gives ∙ c.lines-line-items.ensures ∙ known,
      refl,
      sym (ap (map Some) c.new-values.ensures.items),
      refl,
    )

pub loop-line-preserved : goal.loop-line-preserved
loop-line-preserved g c = λ xs e.
    let i = c.loop-line.invariant xs e in
    let old = lines_known_bytes (reader_remaining g.R.Read.remaining) c.loop-line.line-iterator in
    let new = lines_known_bytes (reader_remaining g.R.Read.remaining) c.next.new.self in
    let line = string_bytes c.in_ok-line.field-0 in
    let rest = drop_through 10 i.1 in
    let read : IfSome old (λ ys. (0 < length ys) × (line ≡ first_line ys)) × DropsThrough old new 10 =
    subst (λ r. IfOk r (λ x. IfSome old (λ ys. (0 < length ys) × (string_bytes x ≡ first_line ys)) × DropsThrough old new 10)) c.in_ok-line.was c.in-Some.ensures.steps.1 in
    let next = known_line old new line i.1 read i.2 in
    let took = c.in_ok-take_values.ensures in
    let values = c.loop-line.values.items in
    let said : AreValues (line_words line) took.0 = subst (λ l. AreValues (line_words l) took.0) c.as_str.ensures.value took.1 in
    let all : AreValues (all_words (i.0 ++ line ∷ [])) (values ++ took.0) =
    subst (λ w. AreValues w (values ++ took.0)) (words_of_more i.0 line) (are_more (all_words i.0) (line_words line) values took.0 i.4 said) in (
      i.0 ++ line ∷ [],
      rest,
      next.1,
      i.3 ∙ ap (λ l. i.0 ++ l) next.0 ∙ sym (append_assoc i.0 (line ∷ []) (lines rest)),
      subst (AreValues (all_words (i.0 ++ line ∷ []))) (sym took.2) all,
      c.saturating_add-number.ensures ∙ line_counted c.loop-line.number (length i.0) i.5 ∙ ap (λ n. min n (2 ^ 64 - 1)) (sym (length-append i.0 (line ∷ []))),
    )

pub returns : goal.returns
returns g c = λ xs e.
    let i = c.loop-line.invariant xs e in
    let s = plan_scheme c.args.plan.now in
    let values = c.loop-line.values.items in
    let over : i.1 ≡ [] = subst IsAtEnd i.2 c.in-None.ensures.steps.1 in
    let whole : lines xs ≡ i.0 = i.3 ∙ ap (λ l. i.0 ++ lines l) over ∙ append-nil i.0 in
    let width : c.needed_width-width.result ≡ needed_width s.bits = c.needed_width-width.ensures ∙ ap (λ p. needed_width p.symbol_bits) c.parts.ensures in
    let fit : table_fits (needed_width s.bits) values ≡ true = values_taken (table_fits (needed_width s.bits) values) (c.in_ok-new-2.ensures.answer ∙ (λ k. making_answer (table_fits (width k) values))) in (
      values,
      (subst (λ l. AreValues (all_words l) values) (sym whole) i.4, fit),
      c.in_ok-new-2.ensures.made ∙ (λ k. record { width = width k; values = values }),
    )

pub returns-in_err-take_values : goal.returns-in_err-take_values
returns-in_err-take_values g c = λ xs e.
    let i = c.loop-line.invariant xs e in
    let s = plan_scheme c.args.plan.now in
    let old = lines_known_bytes (reader_remaining g.R.Read.remaining) c.loop-line.line-iterator in
    let new = lines_known_bytes (reader_remaining g.R.Read.remaining) c.next.new.self in
    let line = string_bytes c.in_ok-line.field-0 in
    let rest = drop_through 10 i.1 in
    let read : IfSome old (λ ys. (0 < length ys) × (line ≡ first_line ys)) × DropsThrough old new 10 =
    subst (λ r. IfOk r (λ x. IfSome old (λ ys. (0 < length ys) × (string_bytes x ≡ first_line ys)) × DropsThrough old new 10)) c.in_ok-line.was c.in-Some.ensures.steps.1 in
    let next = known_line old new line i.1 read i.2 in
    let number = c.saturating_add-number.result in
    let numbered : number ≡ min (length i.0 + 1) (2 ^ 64 - 1) = c.saturating_add-number.ensures ∙ line_counted c.loop-line.number (length i.0) i.5 in
    let trouble = c.in_err-take_values.field-0.0 in
    let refused : WordsRefused (line_words line) number trouble = subst (λ l. WordsRefused (line_words l) number trouble) c.as_str.ensures.value c.in_err-take_values.ensures in
    let p = err_from_is_err_and c.from_residual-in_err-take_values.result c.from_residual-in_err-take_values.ensures.1 in
    rw (p.1, p.2)
    (line_refused s xs i.0 line (lines rest) c.loop-line.values.items number trouble (i.3 ∙ ap (λ l. i.0 ++ l) next.0) i.4 numbered refused)

pub returns-in_err-new-2 : goal.returns-in_err-new-2
returns-in_err-new-2 g c = λ xs e.
    let i = c.loop-line.invariant xs e in
    let s = plan_scheme c.args.plan.now in
    let values = c.loop-line.values.items in
    let over : i.1 ≡ [] = subst IsAtEnd i.2 c.in-None.ensures.steps.1 in
    let whole : lines xs ≡ i.0 = i.3 ∙ ap (λ l. i.0 ++ lines l) over ∙ append-nil i.0 in
    let width : c.needed_width-width.result ≡ needed_width s.bits = c.needed_width-width.ensures ∙ ap (λ p. needed_width p.symbol_bits) c.parts.ensures in
    let none = values_refused c.in_err-new-2.field-0.0 (table_fits (needed_width s.bits) values) (c.in_err-new-2.ensures.answer ∙ (λ k. making_answer (table_fits (width k) values))) in
    let p = err_from_is_err_and c.from_residual-in_err-new-2.result c.from_residual-in_err-new-2.ensures.1 in
    rw (p.1, p.2) (inr (values, (subst (λ l. AreValues (all_words l) values) (sym whole) i.4, none.0), none.1))
