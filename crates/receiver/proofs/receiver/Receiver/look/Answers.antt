use Rattle.std.proofs.Common.{◌≡◌, ◌-◌, ◌*◌, ◌/◌, ◌^◌, min, cond, ◌&&◌, leb, length, take, is_ok, IfOk, ap, ◌∙◌, subst}
use native.Mathlib.Nat.{sub-zero}
use Rattle.code.specs.Numbers.{bits_of}
use Rattle.plan.specs.Plans.{plan_scheme}
use Rattle.plan.specs.Scheme.{sent_length}
use Rattle.score.specs.Blocks.{value_at}
use Rattle.search.specs.Looking.{Found, shown, lengths, search_answer}
use Rattle.search.specs.Searching.{memory}
use Rattle.receiver.proofs.Looks.{part_is, part_long}
use Rattle.receiver.proofs.receiver.Receiver.look.Goals as goal

pub returns : goal.returns
returns g c =
    let s = plan_scheme c.args.self.now.plan in
    let k = g.K.Kind.scale c.args.kind.now in
    let values = c.args.memory.now in
    let block = c.args.block.now in
    let n = sent_length s in
    let old = c.args.old.now.scores.now in
    let new = c.args.new.now.scores.now in
    let marks = c.args.marks.now in
    let part : take (c.min.result - 0) values ≡ take n values =
    ap (λ m. take m values) (sub-zero c.min.result ∙ c.min.ensures ∙ ap (λ x. min x (length values)) c.sent_length.ensures) ∙ part_is n values in
    record {
      answer = c.search.ensures.answer ∙ ap (λ l. search_answer s (lengths l block old new marks)) part
          ∙ ap (λ b. cond (b && leb s.block (length block) && leb (2 ^ memory s) (length old) && leb (2 ^ memory s) (length new) && leb (s.block * 2 ^ memory s / 8) (length marks)) 0 13) (part_long n values);
      found = subst (λ l. IfOk c.search.result (λ score. Found k s (value_at l) (bits_of c.search.new.block) score)) part c.search.ensures.found;
      block = c.search.ensures.block ∙ ap (λ l. cond (is_ok c.search.result) (shown k s (value_at l) block) block) part;
      old = c.search.ensures.old;
      new = c.search.ensures.new;
      marks = c.search.ensures.marks;
    }
