use Rattle.std.proofs.Common.{◌≡◌, ◌++◌, ◌∷◌, [], suc, length, pos, true, false, refl, sym, ap, ◌∙◌, add-one, length-append, arith, rules}
use Rattle.std.proofs.iter.Yields.{nat_range_steps}
use Rattle.std.proofs.lemmas.Fn.{fold_over}
use Rattle.std.proofs.lemmas.Iterator.{YieldsList-from_range}
use Rattle.std.proofs.lemmas.List.FromFn.{length-range_with_len}
use Rattle.std.specs.Float.Ieee.{binary64, mul, div}
use Rattle.std.specs.Int.Signed.{lt_z}
use Rattle.std.specs.Prelude.{unsigned_abs}
use Rattle.channel.specs.Airs.{decibel, weaker, stronger}
use Rattle.channel.proofs.Strength.{weaker_noise, stronger_noise}
use Rattle.channel.proofs.noise.noise_amplitude.Goals as goal

pub returns-then-decibels-lt0 : goal.returns-then-decibels-lt0
returns-then-decibels-lt0 c =
    let n = c.unsigned_abs.result in
    let many : n ≡ unsigned_abs c.args.decibels = search rules in
    let negative : lt_z c.args.decibels (pos 0) ≡ true = search rules in
    fold_over nat_range_steps (λ x. x) _ (λ ys a. a ≡ stronger (length ys)) _
    (λ ys a x b f' j k.
    let more : length (ys ++ x ∷ []) ≡ suc (length ys) = length-append ys (x ∷ []) ∙ add-one (length ys) in
    let here : b ≡ div binary64 a decibel = search rules in
    (here ∙ ap (λ y. div binary64 y decibel) j ∙ ap stronger (sym more), refl))
    (record { start = 0; end = n }) _ _ _ (YieldsList-from_range 0 n n refl (omega arith)).runs refl c.fold.ensures.ran
    ∙ ap stronger (length-range_with_len 0 n ∙ many) ∙ stronger_noise c.args.decibels negative

pub returns-else-decibels-lt0 : goal.returns-else-decibels-lt0
returns-else-decibels-lt0 c =
    let n = c.unsigned_abs.result in
    let many : n ≡ unsigned_abs c.args.decibels = search rules in
    let positive : lt_z c.args.decibels (pos 0) ≡ false = search rules in
    fold_over nat_range_steps (λ x. x) _ (λ ys a. a ≡ weaker (length ys)) _
    (λ ys a x b f' j k.
    let more : length (ys ++ x ∷ []) ≡ suc (length ys) = length-append ys (x ∷ []) ∙ add-one (length ys) in
    let here : b ≡ mul binary64 a decibel = search rules in
    (here ∙ ap (λ y. mul binary64 y decibel) j ∙ ap weaker (sym more), refl))
    (record { start = 0; end = n }) _ _ _ (YieldsList-from_range 0 n n refl (omega arith)).runs refl c.fold-else-decibels-lt0.ensures.ran
    ∙ ap weaker (length-range_with_len 0 n ∙ many) ∙ weaker_noise c.args.decibels positive
