use Rattle.std.proofs.Common.{◌≡◌, ◌+◌, [], ◌∷◌, ◌++◌, take, get_or, sym, ap, ◌∙◌, rules}
use Rattle.std.proofs.Output.{has_written_append, has_written_of_eq}
use Rattle.std.proofs.lemmas.List.{take_more}
use Rattle.lines.specs.Hex.{hex}
use Rattle.lines.proofs.Digits.{hex_append}
use Rattle.lines.proofs.hex.HexDisplay.fmt.Goals as goal

pub loop-byte-preserved : goal.loop-byte-preserved
loop-byte-preserved g c =
    let bytes = c.args.self.now.0.now in
    let i = c.loop-byte.byte-index in
    let byte = get_or bytes i 0 in
    let more : hex (take i bytes) ++ hex (byte ∷ []) ≡ hex (take (i + 1) bytes) =
    sym (hex_append (take i bytes) (byte ∷ [])) ∙ ap hex (sym (take_more bytes i 0 c.loop-byte-test.true)) in
    λ plain.
    has_written_of_eq _ _ _ _ _ more
    (has_written_append _ _ _ _ _ _ (c.loop-byte.invariant plain) (search rules))
