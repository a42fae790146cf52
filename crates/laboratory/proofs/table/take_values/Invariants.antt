use Rattle.std.proofs.Common.{◌≡◌, ℕ, List, ◌++◌}
use Rattle.std.specs.Str.Iter.{split_ascii_whitespace_text}
use Rattle.laboratory.specs.TableText.{words, line_words, AreValues}
use Rattle.laboratory.proofs.table.take_values.Given as goal

-- the words so far are values, and listed
abbrev pub invariant-loop-word : goal.invariant-loop-word
invariant-loop-word l =
    (done : List (List ℕ)) × (values : List ℕ) × (line_words l.fn.line ≡ done ++ words (split_ascii_whitespace_text l.word-iterator))
    × AreValues done values × (l.values.items ≡ l.fn.values.items ++ values)
