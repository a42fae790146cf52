use Rattle.std.proofs.Common.{refl, sym, ◌∙◌}
use Rattle.std.specs.Prelude.{◌==◌, ◌||◌}
use Rattle.bits_text.proofs.Pushed.{at_line_feed, at_other, line_feed, no_line_feed}
use Rattle.bits_text.proofs.reader.BitsReader.pass.Goals as goal

pub returns-then-byte-eq10 : goal.returns-then-byte-eq10
returns-then-byte-eq10 c = record {
  place = λ text h. at_line_feed c.args.self.now text c.args.byte c.saturating_add-self.result c.if-byte-eq10.true;
  line = c.saturating_add-self.ensures ∙ sym (line_feed c.args.byte c.args.self.now.line c.if-byte-eq10.true);
}

pub returns-else-byte-eq10 : goal.returns-else-byte-eq10
returns-else-byte-eq10 c = record {
  place = λ text h. at_other c.args.self.now text c.args.byte (c.args.self.now.in_comment || c.args.byte == 35) h c.if-byte-eq10.false refl;
  line = sym (no_line_feed c.args.byte c.args.self.now.line c.if-byte-eq10.false);
}
