use Rattle.std.proofs.Common.{sym, ap, ◌∙◌, arith}
use Rattle.std.proofs.lemmas.List.{take_rest}
use Rattle.std.proofs.lemmas.Bool.{eqb-true, eqb-false}
use Rattle.entries.specs.Words.{words}
use Rattle.entries.proofs.Split.{past_gap, no_words, word_and_rest}
use Rattle.entries.proofs.words.next_word.Goals as goal

pub returns-then-is_empty : goal.returns-then-is_empty
returns-then-is_empty c =
    let g = c.gap.ensures in
    past_gap c.gap.result c.args.text.now g.within g.before ∙ ap words (sym (take_rest c.args.text.now c.gap.result))
    ∙ no_words _ (eqb-true _ 0 (sym c.if-is_empty.ensures))

pub returns : goal.returns
returns c =
    let g = c.gap.ensures in
    let w = c.word_length.ensures in
    word_and_rest c.gap.result c.word_length.result c.args.text.now _ _ _ (take_rest c.args.text.now c.gap.result) g.within g.before g.after
    (omega (arith, eqb-false _ 0 (sym c.if-is_empty.ensures))) w.within w.before w.after c.split_at.ensures.front c.split_at.ensures.back
