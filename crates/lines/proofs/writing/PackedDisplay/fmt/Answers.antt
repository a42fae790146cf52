use Rattle.std.proofs.Common.{◌≡◌, ◌<◌, [], ◌∷◌, ◌++◌, min, length, sym, ap, ◌∙◌, append_assoc, rules}
use Rattle.std.proofs.Output.{has_written_append}
use Rattle.std.specs.Slice.Iter.{chunks_rest}
use Rattle.lines.specs.Answers.{bits_packed}
use Rattle.lines.specs.Hex.{hex}
use Rattle.lines.proofs.Written.{packed_more}
use Rattle.lines.proofs.writing.PackedDisplay.fmt.Goals as goal

pub loop-bits-preserved : goal.loop-bits-preserved
loop-bits-preserved g c =
    let bits = c.in-Some.bits.now in
    let rest = chunks_rest c.next.new.self in
    let parted : chunks_rest c.loop-bits.bits-iterator ≡ bits ++ rest = search rules in
    let long : length bits ≡ min 8 (length (bits ++ rest)) = rw (sym parted, sym c.loop-bits.invariant.eight) (search rules) in
    let some : 0 < length (bits ++ rest) = rw (sym parted) (search rules) in
    record {
      eight = search rules;
      written = λ plain.
          let before = c.loop-bits.invariant.written plain in
          let byte = c.octet.result in
          let whole : byte ∷ bits_packed rest ≡ bits_packed (chunks_rest c.loop-bits.bits-iterator) =
          ap (λ n. n ∷ bits_packed rest) c.octet.ensures ∙ sym (packed_more bits rest long some) ∙ ap bits_packed (sym parted) in (
            before.0 ++ hex (byte ∷ []),
            has_written_append _ _ _ _ _ _ before.1 (search rules),
            append_assoc before.0 (hex (byte ∷ [])) (hex (bits_packed rest)) ∙ ap (λ l. before.0 ++ hex l) whole ∙ before.2,
          );
    }
