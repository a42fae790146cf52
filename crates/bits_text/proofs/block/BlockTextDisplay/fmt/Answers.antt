use Rattle.std.proofs.Common.{◌≡◌, ◌+◌, [], ◌∷◌, ◌++◌, map, take, get_or, sym, ap, ◌∙◌, rules}
use Rattle.std.proofs.Output.{has_written_append, has_written_of_eq}
use Rattle.std.proofs.lemmas.List.{take_more, map-append}
use Rattle.bits_text.specs.Texts.{digit}
use Rattle.bits_text.proofs.block.BlockTextDisplay.fmt.Goals as goal

pub loop-bit-preserved : goal.loop-bit-preserved
loop-bit-preserved g c =
    let block = c.args.self.now.0.now in
    let i = c.loop-bit.bit-index in
    let bit = get_or block i 0 in
    let more : map digit (take i block) ++ digit bit ∷ [] ≡ map digit (take (i + 1) block) =
    sym (map-append digit (take i block) (bit ∷ [])) ∙ ap (map digit) (sym (take_more block i 0 c.loop-bit-test.true)) in
    λ plain. has_written_of_eq _ _ _ _ _ more (has_written_append _ _ _ _ _ _ (c.loop-bit.invariant plain) (search rules))
