use Rattle.std.proofs.Common.{◌≡◌, ℕ, List, ◌++◌}
use Rattle.std.specs.Fmt.{HasWritten, IsPlainFormatter}
use Rattle.std.specs.Slice.Iter.{chunks_rest, chunks_size}
use Rattle.lines.specs.Answers.{bits_packed}
use Rattle.lines.specs.Hex.{hex}
use Rattle.lines.proofs.writing.PackedDisplay.fmt.Given as goal

-- what is written, and the digits of what is left of the block, are those of the block
abbrev pub invariant-loop-bits : goal.invariant-loop-bits
invariant-loop-bits g l = record {
  eight : chunks_size l.bits-iterator ≡ 8;
  written : IsPlainFormatter l.initial.f →
      (bs : List ℕ) × HasWritten g.W.Write.write_str_gives l.initial.f bs l.f × (bs ++ hex (bits_packed (chunks_rest l.bits-iterator)) ≡ hex (bits_packed l.self.0.now));
}
