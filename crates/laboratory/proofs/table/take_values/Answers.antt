use Rattle.std.proofs.Common.{◌≡◌, [], ◌∷◌, ◌++◌, sym, refl, ap, ◌∙◌, subst, append_assoc, append-nil}
use Rattle.std.specs.Str.Iter.{split_ascii_whitespace_text}
use Rattle.std.proofs.lemmas.Result.{err_from_is_err_and}
use Rattle.laboratory.specs.TableText.{words, line_words, AreValues}
use Rattle.laboratory.proofs.Worded.{words_none, word_cut, are_more, word_refused}
use Rattle.laboratory.proofs.table.take_values.Goals as goal

pub loop-word-init : goal.loop-word-init
loop-word-init c = (
  [],
  [],
  ap words (sym (ap split_ascii_whitespace_text c.into_iter-word-iterator.ensures.into_iter_gives ∙ c.split_ascii_whitespace-word-items.ensures.text ∙ c.said.ensures)),
  refl,
  sym (append-nil c.args.values.now.items),
)

pub loop-word-preserved : goal.loop-word-preserved
loop-word-preserved c =
    let i = c.loop-word.invariant in
    let old = split_ascii_whitespace_text c.loop-word.word-iterator in
    let new = split_ascii_whitespace_text c.next.new.self in
    let w = c.in-Some.word.now in
    let cut = c.in-Some.ensures.steps in
    let more : words old ≡ w ∷ words new = word_cut old cut.3.0 w cut.3.1 new cut.3.2 cut.3.3 cut.0 cut.1 cut.3.4 in
    let took = c.in_ok-take_word.ensures in (
      i.0 ++ w ∷ [],
      i.1 ++ took.0,
      i.2 ∙ ap (λ l. i.0 ++ l) more ∙ sym (append_assoc i.0 (w ∷ []) (words new)),
      are_more i.0 (w ∷ []) i.1 took.0 i.3 took.1,
      took.2 ∙ ap (λ l. l ++ took.0) i.4 ∙ append_assoc c.args.values.now.items i.1 took.0,
    )

pub returns : goal.returns
returns c =
    let i = c.loop-word.invariant in
    let old = split_ascii_whitespace_text c.loop-word.word-iterator in
    let over : words old ≡ [] = words_none old c.in-None.ensures.steps.0 in
    let all : line_words c.args.line.now ≡ i.0 = i.2 ∙ ap (λ l. i.0 ++ l) over ∙ append-nil i.0 in
    (i.1, subst (λ l. AreValues l i.1) (sym all) i.3, i.4)

pub returns-in_err-take_word : goal.returns-in_err-take_word
returns-in_err-take_word c =
    let i = c.loop-word.invariant in
    let old = split_ascii_whitespace_text c.loop-word.word-iterator in
    let new = split_ascii_whitespace_text c.next.new.self in
    let w = c.in-Some.word.now in
    let cut = c.in-Some.ensures.steps in
    let more : words old ≡ w ∷ words new = word_cut old cut.3.0 w cut.3.1 new cut.3.2 cut.3.3 cut.0 cut.1 cut.3.4 in
    let p = err_from_is_err_and c.from_residual.result c.from_residual.ensures.1 in
    rw (p.1, p.2) (word_refused (line_words c.args.line.now) i.0 w (words new) c.args.number c.in_err-take_word.field-0.0 (i.2 ∙ ap (λ l. i.0 ++ l) more) c.in_err-take_word.ensures)
