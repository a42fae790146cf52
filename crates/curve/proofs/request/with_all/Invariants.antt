use Rattle.std.proofs.Common.{ℕ, List, drop}
use Rattle.curve.specs.Words.{bytes_of, SetsAll, RefusesAll}
use Rattle.curve.specs.declared.choice.Run.{Run}
use Rattle.curve.proofs.request.with_all.Given as goal

-- what the words from here on set or refuse, all of them do
abbrev pub invariant-loop-word : goal.invariant-loop-word
invariant-loop-word l = record {
  sets : (all : Run) → SetsAll (bytes_of (drop l.word-index l.options)) l.now all → SetsAll (bytes_of l.options) l.fn.run all;
  refuses : (sentence : List ℕ) → RefusesAll (bytes_of (drop l.word-index l.options)) sentence → RefusesAll (bytes_of l.options) sentence;
}
