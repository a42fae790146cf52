use Rattle.std.proofs.Common.{cond, [], ◌∷◌, ap, sym, refl, ◌∙◌}
use Rattle.bits_text.specs.Texts.{mark}
use Rattle.bits_text.proofs.Pushed.{says_same, says_none, says_digit}
use Rattle.bits_text.proofs.reader.BitsReader.take.Goals as goal

pub returns-then-not-is_mark : goal.returns-then-not-is_mark
returns-then-not-is_mark c = record {
  said = λ text bits h s.
      let passed = ap (λ i. mark i c.args.byte) (sym h.comment) ∙ c.is_mark.ensures ∙ ap (λ b. cond b (c.args.byte ∷ []) []) c.if-not-is_mark.true in
      (c.pass.ensures.place text h, says_same text bits c.args.byte s passed);
  line = c.pass.ensures.line;
}

pub returns-then-not-is_digit : goal.returns-then-not-is_digit
returns-then-not-is_digit c = record {
  said = λ text bits h s.
      let marked = ap (λ i. mark i c.args.byte) (sym h.comment) ∙ c.is_mark.ensures ∙ ap (λ b. cond b (c.args.byte ∷ []) []) c.if-not-is_mark.false in
      (refl, refl, says_none text c.args.byte marked (sym c.is_digit.ensures ∙ c.if-not-is_digit.true));
  line = tt;
}

pub returns : goal.returns
returns c = record {
  said = λ text bits h s.
      let marked = ap (λ i. mark i c.args.byte) (sym h.comment) ∙ c.is_mark.ensures ∙ ap (λ b. cond b (c.args.byte ∷ []) []) c.if-not-is_mark.false in
      (c.pass-2.ensures.place text h, says_digit text bits c.args.byte s marked (sym c.is_digit.ensures ∙ c.if-not-is_digit.false));
  line = c.pass-2.ensures.line;
}
